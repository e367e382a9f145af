use Rattle.std.proofs.Common.{false}
use Rattle.judy_tails.specs.Rooms.{bytes_in}
use Rattle.judy_sl.specs.Arenas.{world_of}
use Rattle.judy_sl.specs.Scans.{upward}
use Rattle.judy_sl.proofs.lemmas.scans.ScanMaps.{scanned}
use Rattle.judy_sl.proofs.lemmas.scans.Fronts.{room-climbed}
use Rattle.judy_sl.proofs.lemmas.scans.RunWays.{text_after}
use Rattle.judy_sl.proofs.cursor.KeyCursor.next.Goals as goal

pub invariant_of-self : goal.invariant_of-self
invariant_of-self c =
    let key = bytes_in c.self.inside.key in
    let after = bytes_in c.step.new.key in
    let got = room-climbed false c.self.inside.arena.now c.self.invariant.1.short c.self.inside.key c.self.invariant.0 c.step.new.above.items c.step.new.last c.step.result c.step.new.key
    c.step.ensures.found in (
      got.0,
      record {
        is_arena = c.self.invariant.1.is_arena;
        short = c.self.invariant.1.short;
        is_text = text_after (upward false) (world_of c.self.inside.arena.now) key after c.step.result c.self.invariant.1.is_text got.1;
        leads = got.2;
      },
    )

pub returns-clause-key : goal.returns-clause-key
returns-clause-key c =
    let key = bytes_in c.self.inside.key in
    let after = bytes_in c.step.new.key in
    let got = room-climbed false c.self.inside.arena.now c.self.invariant.1.short c.self.inside.key c.self.invariant.0 c.step.new.above.items c.step.new.last c.step.result c.step.new.key
    c.step.ensures.found in
    rw (← c.self.view_is) (scanned (upward false) c.self.inside.arena.now key c.self.invariant.1.is_text after c.step.result got.1).0

pub returns-clause-value : goal.returns-clause-value
returns-clause-value c =
    let key = bytes_in c.self.inside.key in
    let after = bytes_in c.step.new.key in
    let got = room-climbed false c.self.inside.arena.now c.self.invariant.1.short c.self.inside.key c.self.invariant.0 c.step.new.above.items c.step.new.last c.step.result c.step.new.key
    c.step.ensures.found in
    rw (← c.self.view_is) (scanned (upward false) c.self.inside.arena.now key c.self.invariant.1.is_text after c.step.result got.1).1
