use Rattle.std.proofs.Common.{rules}
use Rattle.judy_node.proofs.room.make_room.Goals as goal

pub returns-then-len-capacity-clause-room : goal.returns-then-len-capacity-clause-room
returns-then-len-capacity-clause-room g c = search rules
