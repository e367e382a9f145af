use Rattle.std.proofs.Common.{ap, ◌∙◌, arith, get_or}
use Rattle.judy_pipe.specs.Pipe.{grown}
use Rattle.judy_shelf.proofs.Rooms.{room_of_one}
use Rattle.judy_shelf.proofs.fields.read_one.Goals as goal

pub returns : goal.returns
returns g c =
    let room = c.read_some.new.room in
    let one = room_of_one c.in_ok-count.count room (c.read_some.auto.room ∙ c.requires.one) c.if-count-eq0.false in
    let fits = c.type_inv.room 0 in
    (get_or room 0 0, c.in_ok-count.ensures.given ∙ ap (grown (g.R.Source.given c.args.source.now)) one, c.in_ok-count.ensures.failures, omega (arith, fits))
