use Rattle.std.proofs.Common.{◌≡◌, ◌+◌, ◌≤◌, take, length}
use Rattle.judy_node.specs.Populations.{population}
use Rattle.judy_node.proofs.populations.holding_from_last.Given as goal

abbrev pub invariant-loop-place : goal.invariant-loop-place
invariant-loop-place g l = (l.left + population l.children ≡ l.rest + population (take l.place l.children)) × (1 ≤ l.left) × (l.place ≤ length l.children)

abbrev pub decreases-loop-place : goal.decreases-loop-place
decreases-loop-place g l = l.place
