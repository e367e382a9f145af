use Rattle.std.proofs.Common.{◌≡◌, ℕ, ◌+◌, ◌-◌, ◌≤◌, length, take}
use Rattle.judy_node.specs.Trees.{IsMap}
use Rattle.judy_combine.specs.Merges.{IsMerged, IsOrdered}
use Rattle.judy_combine.proofs.merges.merge.Given as goal

abbrev pub invariant-pairs : goal.invariant-pairs
invariant-pairs l = record {
  left : l.left ≤ length l.one;
  right : l.right ≤ length l.other;
  few : l.count ≤ l.left + l.right;
  same_room : length l.out ≡ length l.fn.out;
  ordered : (words top : ℕ) → IsMap words 0 top l.one → IsMap words 0 top l.other → IsOrdered words top l.one l.other l.left l.right (take l.count l.out);
  merged : IsMerged l.keep l.one l.other l.left l.right (take l.count l.out);
}

abbrev pub decreases-pairs : goal.decreases-pairs
decreases-pairs l = (length l.one + length l.other) - (l.left + l.right)
