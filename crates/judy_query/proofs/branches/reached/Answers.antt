use Rattle.std.proofs.Common.{rules}
use Rattle.judy_query.proofs.branches.reached.Goals as goal

pub returns-in-Child : goal.returns-in-Child
returns-in-Child g c = search rules
