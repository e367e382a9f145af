use Rattle.std.proofs.Common.{◌≢◌, ◌∙◌, sym, ap, arith, drop, true, false, subst, refl, suc, Some}
use Rattle.std.proofs.lemmas.List.{take_rest}
use Rattle.std.specs.FinMap.{get}
use Rattle.judy_sl.specs.Pieces.{piece_of, pieces}
use Rattle.judy_sl.specs.Arenas.{world_of, node_of, HasText}
use Rattle.judy_sl.specs.Ways.{seat_in}
use Rattle.judy_sl.specs.Scans.{IsNearestEntry, IsEntryOf, piece_in}
use Rattle.judy_sl.proofs.lemmas.pieces.PieceLemmas.{text_from_bytes, piece-IsInner, text-drop}
use Rattle.judy_sl.proofs.lemmas.seats.Linked.{taken_of}
use Rattle.judy_sl.proofs.lemmas.scans.ScanLevels.{none_absent, none_child, none_tail}
use Rattle.judy_sl.proofs.lemmas.scans.ScanEntries.{met_along, apart-beyond, apart-absent}
use Rattle.judy_sl.proofs.lemmas.scans.ScanWays.{scan_start, scan_moved, scan_left, scan_tail, scan_last}
use Rattle.judy_sl.proofs.arena.Arena.last_turn.Goals as goal

pub loop-rest-init : goal.loop-rest-init
loop-rest-init c = record {
  on = scan_start c.args.look (world_of c.args.self.now) c.args.key.now c.args.self.now.root.map refl (text_from_bytes c.args.key.now c.type_inv.key c.requires.without_zero);
  piece = c.fresh_piece-piece.ensures;
}

pub returns-then-apart-clause-is_turn : goal.returns-then-apart-clause-is_turn
returns-then-apart-clause-is_turn c =
    let words = c.loop-rest.level.now.map in
    let on = c.loop-rest.invariant.on in
    let from = subst (λ p. IsNearestEntry c.args.look.side true words p (piece_in c.from.result)) c.loop-rest.invariant.piece c.from.ensures.nearest in
    let nearest = subst (λ found. IsNearestEntry c.args.look.side true words (piece_of c.loop-rest.rest.now) (piece_in found)) c.in-Some.is from in
    let apart : c.in-Some.entry.0 ≢ piece_of c.loop-rest.rest.now = (λ e. c.if-apart.true (e ∙ sym c.loop-rest.invariant.piece)) in
    let beyond = apart-beyond words (piece_of c.loop-rest.rest.now) c.in-Some.entry.0 apart c.args.look.side nearest in
    let absent = apart-absent words (piece_of c.loop-rest.rest.now) c.in-Some.entry.0 apart c.args.look.side nearest in
    let none = none_absent c.args.look (world_of c.args.self.now) (seat_in c.loop-rest.child) words on.is_level (piece_of c.loop-rest.rest.now) (pieces (drop 8 c.loop-rest.rest.now)) absent in
    rw c.nearer.ensures (scan_left c.args.look (world_of c.args.self.now) c.args.key.now c.loop-rest.child words c.loop-rest.rest.now on c.loop-rest-test.true
    (Some c.in-Some.entry) beyond (subst (IsEntryOf words) c.in-Some.is c.from.ensures.value) none)

pub child-requires : goal.child-requires
child-requires c =
    let words = c.loop-rest.level.now.map in
    let on = c.loop-rest.invariant.on in
    let held = subst (IsEntryOf words) c.in-Some.is c.from.ensures.value in
    let entry = ap (get words) (sym c.loop-rest.invariant.piece ∙ sym c.if-apart.false) ∙ held in
    taken_of c.args.self.now c.in-Some.entry.1 ((c.requires.is_arena.is_world.levels (seat_in c.loop-rest.child) words on.is_level).leads
    (piece_of c.loop-rest.rest.now) c.in-Some.entry.1 entry (piece-IsInner c.loop-rest.rest.now on.text c.loop-rest-test.true)).1

pub meets-met-requires : goal.meets-met-requires
meets-met-requires c = rw take_rest (text-drop 8 c.loop-rest.rest.now c.loop-rest.invariant.on.text)

pub loop-rest-preserved : goal.loop-rest-preserved
loop-rest-preserved c =
    let words = c.loop-rest.level.now.map in
    let held = subst (IsEntryOf words) c.in-Some.is c.from.ensures.value in
    let entry = ap (get words) (sym c.loop-rest.invariant.piece ∙ sym c.if-apart.false) ∙ held in
    let child = c.in-Level.ensures in
    record {
      on =
          rw take_rest (scan_moved c.args.look (world_of c.args.self.now) c.args.key.now c.loop-rest.child words c.loop-rest.rest.now c.loop-rest.invariant.on
          c.loop-rest-test.true c.in-Some.entry.1 c.in-Level.next.now.map entry (ap node_of child));
      piece = c.first_piece-piece.ensures;
    }

pub returns-then-met-clause-is_turn : goal.returns-then-met-clause-is_turn
returns-then-met-clause-is_turn c =
    let entry = ap (get c.loop-rest.level.now.map) (sym c.loop-rest.invariant.piece ∙ sym c.if-apart.false) ∙ subst (IsEntryOf c.loop-rest.level.now.map) c.in-Some.is c.from.ensures.value in
    let met = met_along c.args.look (world_of c.args.self.now) c.loop-rest.rest.now c.in-Tail.tail.0 c.loop-rest.invariant.on.text
    (subst HasText c.in-Tail.ensures (c.requires.is_arena.texts c.in-Some.entry.1)) c.meets-met.ensures in
    rw (c.nearer-then-met.ensures, c.if-apart.false ∙ c.loop-rest.invariant.piece) (scan_tail c.args.look
    (world_of c.args.self.now) c.args.key.now c.loop-rest.child c.loop-rest.level.now.map c.loop-rest.rest.now c.loop-rest.invariant.on c.loop-rest-test.true
    c.in-Some.entry.1 c.in-Tail.tail.1 (pieces c.in-Tail.tail.0) entry (ap node_of c.in-Tail.ensures) (met ∙ c.if-met.true))

pub returns-else-met-clause-is_turn : goal.returns-else-met-clause-is_turn
returns-else-met-clause-is_turn c =
    let words = c.loop-rest.level.now.map in
    let on = c.loop-rest.invariant.on in
    let entry = ap (get words) (sym c.loop-rest.invariant.piece ∙ sym c.if-apart.false) ∙ subst (IsEntryOf words) c.in-Some.is c.from.ensures.value in
    let met = met_along c.args.look (world_of c.args.self.now) c.loop-rest.rest.now c.in-Tail.tail.0 on.text
    (subst HasText c.in-Tail.ensures (c.requires.is_arena.texts c.in-Some.entry.1)) c.meets-met.ensures in
    let nearest = subst (λ p. IsNearestEntry c.args.look.side false words p (piece_in c.beyond.result)) c.loop-rest.invariant.piece c.beyond.ensures.nearest in
    let none = none_child c.args.look (world_of c.args.self.now) (seat_in c.loop-rest.child) words on.is_level (piece_of c.loop-rest.rest.now) c.in-Some.entry.1
    (pieces (drop 8 c.loop-rest.rest.now)) entry (piece-IsInner c.loop-rest.rest.now on.text c.loop-rest-test.true)
    (none_tail c.args.look (world_of c.args.self.now) (suc c.in-Some.entry.1) (pieces (drop 8 c.loop-rest.rest.now)) (pieces c.in-Tail.tail.0) c.in-Tail.tail.1
    (ap node_of c.in-Tail.ensures) (met ∙ c.if-met.false)) in
    rw c.nearer-else-met.ensures (scan_left c.args.look (world_of c.args.self.now) c.args.key.now c.loop-rest.child words c.loop-rest.rest.now on c.loop-rest-test.true
    c.beyond.result nearest c.beyond.ensures.value none)

pub returns-clause-is_turn : goal.returns-clause-is_turn
returns-clause-is_turn c =
    let words = c.loop-rest.level.now.map in
    let nearest = subst (λ p. IsNearestEntry c.args.look.side c.args.look.itself words p (piece_in c.last_entry.result)) c.loop-rest.invariant.piece c.last_entry.ensures.nearest in
    rw c.nearer-2.ensures (scan_last c.args.look (world_of c.args.self.now) c.args.key.now c.loop-rest.child words c.loop-rest.rest.now c.loop-rest.invariant.on c.last_entry.result
    (omega arith) nearest c.last_entry.ensures.value)
