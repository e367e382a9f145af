-- `slot_in`: the slot that was lent is that of the key that the scan looks for; where none was, no key was found, and the buffer stays.
use Rattle.std.proofs.Common.{refl, length}
use Rattle.judy_c.proofs.ScanFacts.{fits_asked, neighbour_told, no_neighbour_told}
use Rattle.judy_c.proofs.strings.scans.slot_in.Goals as goal

pub returns-in-Some : goal.returns-in-Some
returns-in-Some c =
    let map = c.args.array.now.map in (
      refl,
      record {
        writes_back = tt;
        found = λ other. (
          c.requires.start,
          neighbour_told c.args.scan c.look.result map (c.look.ensures map) c.args.buffer.now c.args.count.now c.requires.start.0 c.neighbour_slot_in.new.buffer
              c.neighbour_slot_in.new.len c.in-Some.ensures.key other c.in-Some.slot.now c.requires.room c.in-Some.ensures.value,
        );
      },
    )

pub returns-in-None : goal.returns-in-None
returns-in-None c =
    let map = c.args.array.now.map in (
      refl,
      record {
        writes_back = tt;
        found = λ other. (
          c.requires.start,
          no_neighbour_told c.args.scan c.look.result map (c.look.ensures map) c.args.buffer.now c.args.count.now c.requires.start.0 c.neighbour_slot_in.new.buffer
              c.neighbour_slot_in.new.len c.in-None.ensures.key other c.in-None.ensures.value,
        );
      },
    )

pub neighbour_slot_in-requires-clause-room : goal.neighbour_slot_in-requires-clause-room
neighbour_slot_in-requires-clause-room c =
    let map = c.args.array.now.map in
    fits_asked c.args.scan c.look.result map (c.look.ensures map) c.args.buffer.now c.args.count.now c.requires.start.0 (length c.args.buffer.now) c.requires.room
