use Rattle.std.proofs.Common.{◌≡◌, ◌+◌, ◌*◌, length, take}
use Rattle.judy_model.specs.Forms.{shape_in}
use Rattle.judy_node.specs.Trees.{forms_in}
use Rattle.judy_node.specs.ShapeSums.{shape_as, plus}
use Rattle.judy_node.proofs.+shape.Given as goal

abbrev pub decreases-child::ChildOf::count_into : goal.decreases-child::ChildOf::count_into
decreases-child::ChildOf::count_into g l = 2 * length l.self.now.form

abbrev pub decreases-shape::count_branch : goal.decreases-shape::count_branch
decreases-shape::count_branch g l = 2 * length (forms_in l.branch.now.children.items) + 1

abbrev pub invariant-shape::count_branch-loop-child : goal.invariant-shape::count_branch-loop-child
invariant-shape::count_branch-loop-child g l = shape_as l.shape ≡ plus (shape_as l.initial.shape) (shape_in (forms_in (take l.child-index l.child-items)))
