use Rattle.std.proofs.Common.{◌+◌, ◌*◌, length}
use Rattle.judy_node.specs.Trees.{forms_in}
use Rattle.judy_node.proofs.+bytes.Given as goal

abbrev pub decreases-child::ChildOf::bytes : goal.decreases-child::ChildOf::bytes
decreases-child::ChildOf::bytes g l = 2 * length l.self.now.form

abbrev pub decreases-memory::bytes_of_branch : goal.decreases-memory::bytes_of_branch
decreases-memory::bytes_of_branch g l = 2 * length (forms_in l.branch.now.children.items) + 1
