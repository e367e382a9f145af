use Rattle.std.proofs.Common.{rules}
use Rattle.judy_shelf.proofs.shelf.Shelf.remove.Goals as goal

pub returns-clause-rest : goal.returns-clause-rest
returns-clause-rest c = search rules
