use Rattle.std.proofs.Common.{◌≢◌, ◌≤◌, All, length, take}
use Rattle.judy_string_sets.proofs.PrefixSteps.{AreShort}
use Rattle.judy_string_sets.proofs.longest.longest_prefix.Given as goal

-- The front may be that of a key, and no key that the bytes begin with is longer.
abbrev pub invariant-fronts : goal.invariant-fronts
invariant-fronts g l = record {
  within : l.end ≤ length l.bytes;
  short : l.end ≤ l.longest;
  without_zero : All (λ byte. byte ≢ 0) (take l.end l.bytes);
  others : AreShort l.strings.map l.bytes l.end;
}

abbrev pub decreases-fronts : goal.decreases-fronts
decreases-fronts g l = l.end
