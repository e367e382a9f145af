use Rattle.std.proofs.Common.{◌≡◌, ◌+◌, ◌-◌, ◌≤◌, length, drop}
use Rattle.judy_sets.proofs.LeafPairs.{in_both}
use Rattle.judy_sets.proofs.leaves.count_met.Given as goal

-- what is left of both has the keys that weren't counted
abbrev pub invariant-keys : goal.invariant-keys
invariant-keys l = record {
  left : l.left ≤ length l.one;
  right : l.right ≤ length l.other;
  few : l.count ≤ l.left;
  counted : l.count + in_both (drop l.left l.one) (drop l.right l.other) ≡ in_both l.one l.other;
}

abbrev pub decreases-keys : goal.decreases-keys
decreases-keys l = (length l.one + length l.other) - (l.left + l.right)
