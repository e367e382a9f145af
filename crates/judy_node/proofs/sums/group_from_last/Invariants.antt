use Rattle.std.proofs.Common.{◌≡◌, ◌+◌, ◌≤◌, take, length, sum}
use Rattle.judy_node.proofs.sums.group_from_last.Given as goal

abbrev pub invariant-loop-group : goal.invariant-loop-group
invariant-loop-group l = (l.left + sum l.groups ≡ l.rest + sum (take l.group l.groups)) × (1 ≤ l.left) × (l.group ≤ length l.groups)

abbrev pub decreases-loop-group : goal.decreases-loop-group
decreases-loop-group l = l.group
