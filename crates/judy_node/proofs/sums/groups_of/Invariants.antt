use Rattle.std.proofs.Common.{◌≡◌, ℕ, ◌*◌, ◌≤◌, take, length, sum}
use Rattle.judy_node.specs.Populations.{keys_before}
use Rattle.judy_node.proofs.sums.groups_of.Given as goal

abbrev pub invariant-loop-group : goal.invariant-loop-group
invariant-loop-group g l = (length l.groups ≡ 16) × ((group : ℕ) → group ≤ l.group → sum (take group l.groups) ≡ keys_before (16 * group) l.children)
