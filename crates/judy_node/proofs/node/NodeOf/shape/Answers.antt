use Rattle.std.proofs.Common.{rules}
use Rattle.judy_node.proofs.node.NodeOf.shape.Goals as goal

pub returns-in-Many : goal.returns-in-Many
returns-in-Many g c = search rules
