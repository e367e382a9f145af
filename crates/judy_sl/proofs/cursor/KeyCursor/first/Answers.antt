use Rattle.std.proofs.Common.{true}
use Rattle.judy_tails.specs.Rooms.{bytes_in}
use Rattle.judy_sl.specs.Arenas.{world_of}
use Rattle.judy_sl.specs.Scans.{upward}
use Rattle.judy_sl.proofs.lemmas.scans.ScanMaps.{scanned}
use Rattle.judy_sl.proofs.lemmas.scans.Fronts.{room-climbed}
use Rattle.judy_sl.proofs.lemmas.scans.RunWays.{text_after}
use Rattle.judy_sl.proofs.cursor.KeyCursor.first.Goals as goal

pub invariant_of-self : goal.invariant_of-self
invariant_of-self c =
    let key = bytes_in c.self.inside.key in
    let after = bytes_in c.seek.new.key in
    let got = room-climbed true c.self.inside.arena.now c.self.invariant.1.short c.self.inside.key c.self.invariant.0 c.seek.new.above.items c.seek.new.last c.seek.result c.seek.new.key
    c.seek.ensures.found in (
      got.0,
      record {
        is_arena = c.self.invariant.1.is_arena;
        short = c.self.invariant.1.short;
        is_text = text_after (upward true) (world_of c.self.inside.arena.now) key after c.seek.result c.self.invariant.1.is_text got.1;
        leads = got.2;
      },
    )

pub returns-clause-key : goal.returns-clause-key
returns-clause-key c =
    let key = bytes_in c.self.inside.key in
    let after = bytes_in c.seek.new.key in
    let got = room-climbed true c.self.inside.arena.now c.self.invariant.1.short c.self.inside.key c.self.invariant.0 c.seek.new.above.items c.seek.new.last c.seek.result c.seek.new.key
    c.seek.ensures.found in
    rw (← c.self.view_is) (scanned (upward true) c.self.inside.arena.now key c.self.invariant.1.is_text after c.seek.result got.1).0

pub returns-clause-value : goal.returns-clause-value
returns-clause-value c =
    let key = bytes_in c.self.inside.key in
    let after = bytes_in c.seek.new.key in
    let got = room-climbed true c.self.inside.arena.now c.self.invariant.1.short c.self.inside.key c.self.invariant.0 c.seek.new.above.items c.seek.new.last c.seek.result c.seek.new.key
    c.seek.ensures.found in
    rw (← c.self.view_is) (scanned (upward true) c.self.inside.arena.now key c.self.invariant.1.is_text after c.seek.result got.1).1
