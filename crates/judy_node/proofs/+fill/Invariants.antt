use Rattle.std.proofs.Common.{◌≡◌, ◌+◌, ◌*◌, ◌^◌, ◌<◌, length, take}
use Rattle.judy_model.specs.WordBytes.{number_of}
use Rattle.judy_bits.specs.ByteSets.{rank}
use Rattle.judy_leaf.specs.KeyLists.{shift}
use Rattle.judy_node.specs.Trees.{join}
use Rattle.judy_node.specs.Populations.{population}
use Rattle.judy_node.proofs.+fill.Given as goal

abbrev pub decreases-child::ChildOf::fill : goal.decreases-child::ChildOf::fill
decreases-child::ChildOf::fill g l = 2 * l.width

abbrev pub decreases-fill::fill_branch : goal.decreases-fill::fill_branch
decreases-fill::fill_branch g l = 2 * l.branch.now.width + 1

abbrev pub invariant-fill::fill_branch-loop-place : goal.invariant-fill::fill_branch-loop-place
invariant-fill::fill_branch-loop-place g l =
    (l.at ≡ population (take l.place l.child-items))
    × (take l.at l.out ≡ shift l.base (join (256 ^ l.width) (number_of l.branch.skip * 256) (take l.place l.branch.bytes) (take l.place l.child-items)))
    × (l.place < length l.child-items → rank l.branch.bytes l.from ≡ l.place)
