use Rattle.std.proofs.Common.{ℕ, ◌+◌, ◌*◌, length}
use Rattle.judy_node.specs.Built.{AreMade}
use Rattle.judy_node.proofs.build.+build.Given as goal

abbrev pub decreases-add_group : goal.decreases-add_group
decreases-add_group g l = 5 * l.below + 3

abbrev pub decreases-add_child : goal.decreases-add_child
decreases-add_child g l = 5 * l.width + 2

abbrev pub decreases-kind_of_sorted : goal.decreases-kind_of_sorted
decreases-kind_of_sorted g l = 5 * l.width + 1

abbrev pub decreases-many : goal.decreases-many
decreases-many g l = 5 * l.width

abbrev pub decreases-split : goal.decreases-split
decreases-split g l = 5 * l.below + 4

abbrev pub invariant-split-loop-rest : goal.invariant-split-loop-rest
invariant-split-loop-rest g l = (next : ℕ) × AreMade g.V.Words.WORDS l.below l.pairs l.rest l.bytes l.children.items next

abbrev pub decreases-split-loop-rest : goal.decreases-split-loop-rest
decreases-split-loop-rest g l = length l.rest
