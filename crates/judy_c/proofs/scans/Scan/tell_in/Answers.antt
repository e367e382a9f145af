-- `Scan::tell_in`: the key that was found is told with its value; where no value was found no key was, and the buffer stays.
use Rattle.std.proofs.Common.{length}
use Rattle.judy_c.proofs.ScanFacts.{fits_asked, neighbour_told, no_neighbour_told}
use Rattle.judy_c.proofs.scans.Scan.tell_in.Goals as goal

pub returns-in-Some : goal.returns-in-Some
returns-in-Some c =
    let map = c.args.array.now.map in (
      c.requires.start,
      neighbour_told c.args.self c.look.result map (c.look.ensures map) c.args.buffer.now c.args.count.now c.requires.start.0 c.neighbour_in.new.buffer c.neighbour_in.new.len
          c.in-Some.ensures.key c.args.value.now c.in-Some.word c.requires.room c.in-Some.ensures.value,
    )

pub returns-in-None : goal.returns-in-None
returns-in-None c =
    let map = c.args.array.now.map in (
      c.requires.start,
      no_neighbour_told c.args.self c.look.result map (c.look.ensures map) c.args.buffer.now c.args.count.now c.requires.start.0 c.neighbour_in.new.buffer c.neighbour_in.new.len
          c.in-None.ensures.key c.args.value.now c.in-None.ensures.value,
    )

pub neighbour_in-requires-clause-room : goal.neighbour_in-requires-clause-room
neighbour_in-requires-clause-room c =
    let map = c.args.array.now.map in
    fits_asked c.args.self c.look.result map (c.look.ensures map) c.args.buffer.now c.args.count.now c.requires.start.0 (length c.args.buffer.now) c.requires.room
