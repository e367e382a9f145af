use Rattle.std.proofs.Common.{rules}
use Rattle.judy_shelf.proofs.shelf.Shelf.at.Goals as goal

pub returns-clause-entry : goal.returns-clause-entry
returns-clause-entry c = search rules
