use Rattle.judy_node.proofs.Shaped.{branch-child}
use Rattle.judy_node.proofs.laws.a_branch_is_a_child.Goals as goal

pub returns : goal.returns
returns c = branch-child
