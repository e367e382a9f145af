use Rattle.std.proofs.Common.{◌≡◌, ◌+◌, take, sum}
use Rattle.judy_node.proofs.sums.group_from_first.Given as goal

abbrev pub invariant-loop-group : goal.invariant-loop-group
invariant-loop-group l = l.n ≡ sum (take l.group l.groups) + l.left
