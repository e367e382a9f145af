use Rattle.std.proofs.Common.{rules}
use Rattle.judy_shelf.proofs.Rooms.{byte_trailing}
use Rattle.judy_shelf.proofs.fields.read_end.Goals as goal

pub returns-then-branch : goal.returns-then-branch
returns-then-branch g c = search (rules, byte_trailing)
