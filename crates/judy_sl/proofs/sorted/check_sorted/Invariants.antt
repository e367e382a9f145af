use Rattle.std.proofs.Common.{◌≤◌, None, IfSome}
use Rattle.std.specs.Option.{option_copied}
use Rattle.judy_sl.specs.Pieces.{IsText}
use Rattle.judy_sl.specs.Sorted.{strings_in}
use Rattle.judy_sl.proofs.lemmas.made.SortedRuns.{Run}
use Rattle.judy_sl.proofs.sorted.check_sorted.Given as goal

-- as many as were read are keys that ascend up to the last one, and no more than the limit
abbrev pub invariant-pairs : goal.invariant-pairs
invariant-pairs g l = record {
  within : l.at ≤ l.limit;
  text : IfSome (option_copied l.last) IsText;
  run : Run g.L.KeyLength.IsKey None (strings_in l.pairs) l.at (option_copied l.last);
}
