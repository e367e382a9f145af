use Rattle.std.proofs.Common.{refl}
use Rattle.judy_query.proofs.AbsentSides.{told_up, told_down}
use Rattle.judy_query.proofs.sides.Side.absent_byte.Goals as goal

pub returns-in-Up : goal.returns-in-Up
returns-in-Up g c = told_up c.args.self c.args.list.now.pairs c.args.list.now.pairs 1 1 c.args.byte c.absent_at_or_after.result refl refl c.requires c.in-Up.is c.absent_at_or_after.ensures

pub returns-in-Down : goal.returns-in-Down
returns-in-Down g c = told_down c.args.self c.args.list.now.pairs c.args.list.now.pairs 1 1 c.args.byte c.absent_at_or_before.result refl refl c.requires c.in-Down.is c.absent_at_or_before.ensures
