use Rattle.std.proofs.Common.{sym, subst}
use Rattle.judy_query.specs.Rooms.{OrElse, IsNearestRoom}
use Rattle.judy_query.proofs.RoomSteps.{own_room}
use Rattle.judy_query.proofs.empties.first_room.Goals as goal

pub returns-in-Nowhere : goal.returns-in-Nowhere
returns-in-Nowhere g c = (
  c.room_past.result,
  c.room_past.ensures,
  subst (λ past. OrElse past (IsNearestRoom c.args.side g.V.Words.WORDS c.args.above c.args.beside) c.nearest_room.result) (sym c.in-Nowhere.is) c.nearest_room.ensures,
)

pub returns-in_default : goal.returns-in_default
returns-in_default g c = (c.room_past.result, c.room_past.ensures, own_room _ c.room_past.result c.in_default.not-Nowhere)
