use Rattle.judy_query.proofs.RoomSteps.{own_room}
use Rattle.judy_query.proofs.rooms.Room.or.Goals as goal

pub returns-in_default : goal.returns-in_default
returns-in_default g c = own_room _ c.args.self c.in_default.not-Nowhere
