use Rattle.std.proofs.Common.{◌-◌, ◌≤◌, ◌&&◌, max, nat_lt, nat_le}
use Rattle.judy_sets.specs.RangeWords.{IsWordsPut}
use Rattle.judy_sets.proofs.range_words.put_words.Given as goal

-- the words that were passed were put in
abbrev pub invariant-words : goal.invariant-words
invariant-words g l = record {
  low : l.from ≤ l.word;
  high : l.word ≤ max l.from l.end;
  put : IsWordsPut l.fn.made l.made (λ other. nat_le l.from other && nat_lt other l.word);
}

abbrev pub decreases-words : goal.decreases-words
decreases-words g l = l.end - l.word
