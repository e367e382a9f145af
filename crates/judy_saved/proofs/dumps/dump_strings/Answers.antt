use Rattle.std.proofs.Common.{◌≤◌, sym, ◌∙◌, arith}
use Rattle.std.specs.FinMap.{len}
use Rattle.judy_shelf.specs.Versions.{format_of}
use Rattle.judy_saved.specs.Dumps.{most, strings_text}
use Rattle.judy_saved.proofs.RoomLemmas.{saved_again, not_saved, from_front}
use Rattle.judy_saved.proofs.dumps.dump_strings.Goals as goal

pub returns-then-size-room-clause-dumped : goal.returns-then-size-room-clause-dumped
returns-then-size-room-clause-dumped g c =
    let m = c.args.strings.now.map in
    let text = strings_text (format_of c.args.version) c.args.name.now m in
    let stands = from_front text _ _ _ c.write_strings-size.ensures in
    let few : len m ≤ most = omega (arith, c.len-most.ensures.count, c.len-most.ensures.most) in
    (few, sym c.are_sayable.ensures.answer ∙ c.if-not-are_sayable.false, not_saved text c.args.room.now _ stands.ends c.if-size-room.true)

pub returns-clause-dumped : goal.returns-clause-dumped
returns-clause-dumped g c =
    let m = c.args.strings.now.map in
    let text = strings_text (format_of c.args.version) c.args.name.now m in
    let stands = from_front text _ _ _ c.write_strings-size.ensures in
    let few : len m ≤ most = omega (arith, c.len-most.ensures.count, c.len-most.ensures.most) in
    (few, sym c.are_sayable.ensures.answer ∙ c.if-not-are_sayable.false, saved_again text c.args.room.now _ _ _ stands.ends c.if-size-room.false c.write_strings.ensures)
