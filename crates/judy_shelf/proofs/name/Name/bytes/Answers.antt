use Rattle.std.proofs.Common.{rules}
use Rattle.judy_shelf.proofs.name.Name.bytes.Goals as goal

pub returns-clause-same : goal.returns-clause-same
returns-clause-same c = search rules
