use Rattle.std.proofs.Common.{rules}
use Rattle.judy_shelf.proofs.shelf.Shelf.get.Goals as goal

pub returns : goal.returns
returns c = search rules
