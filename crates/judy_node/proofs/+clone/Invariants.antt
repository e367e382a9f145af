use Rattle.std.proofs.Common.{◌≡◌, ◌+◌, ◌*◌, length, take}
use Rattle.judy_node.specs.Trees.{forms_in}
use Rattle.judy_node.proofs.+clone.Given as goal

abbrev pub decreases-child::ChildOf::try_clone : goal.decreases-child::ChildOf::try_clone
decreases-child::ChildOf::try_clone g l = 2 * length l.self.now.form

abbrev pub decreases-clone::clone_branch : goal.decreases-clone::clone_branch
decreases-clone::clone_branch g l = 2 * length (forms_in l.branch.now.children.items) + 1

abbrev pub invariant-clone::clone_branch-loop-child : goal.invariant-clone::clone_branch-loop-child
invariant-clone::clone_branch-loop-child g l = l.children.items ≡ take l.child-index l.child-items
