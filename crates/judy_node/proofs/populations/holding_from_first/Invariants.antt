use Rattle.std.proofs.Common.{◌≡◌, ◌+◌, take}
use Rattle.judy_node.specs.Populations.{population}
use Rattle.judy_node.proofs.populations.holding_from_first.Given as goal

abbrev pub invariant-loop-place : goal.invariant-loop-place
invariant-loop-place g l = l.n ≡ population (take l.place l.children) + l.left
