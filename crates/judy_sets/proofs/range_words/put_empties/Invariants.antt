use Rattle.std.proofs.Common.{◌-◌, ◌≤◌, true}
use Rattle.judy_model.specs.Keys.{word_order}
use Rattle.judy_model.specs.Arrays.{ArrayOf}
use Rattle.judy_sets.specs.RangeWords.{is_put, IsWordsPut}
use Rattle.judy_sets.proofs.range_words.put_empties.Given as goal

-- to put in those that are left comes to what putting in all of them does
abbrev pub invariant-keys : goal.invariant-keys
invariant-keys g l = record {
  low : l.from ≤ l.at;
  high : l.at ≤ l.to;
  later : (new : ArrayOf word_order) → IsWordsPut l.made new (is_put true l.array.map l.at l.to) → IsWordsPut l.fn.made new (is_put true l.array.map l.from l.to);
}

abbrev pub decreases-keys : goal.decreases-keys
decreases-keys g l = l.to - l.at
