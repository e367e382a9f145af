use Rattle.std.proofs.Common.{◌∙◌, sym, ap, arith, drop, false, subst, refl, suc}
use Rattle.std.proofs.lemmas.List.{take_rest}
use Rattle.std.specs.FinMap.{get}
use Rattle.judy_sl.specs.Pieces.{piece_of, pieces}
use Rattle.judy_sl.specs.Arenas.{world_of, node_of, HasText}
use Rattle.judy_sl.specs.Ways.{seat_in}
use Rattle.judy_sl.specs.Scans.{IsNearestEntry, piece_in, IsTurn}
use Rattle.judy_sl.proofs.lemmas.pieces.PieceLemmas.{text_from_bytes, piece-IsInner, text-drop}
use Rattle.judy_sl.proofs.lemmas.seats.Linked.{taken_of}
use Rattle.judy_sl.proofs.lemmas.scans.ScanLevels.{none_absent, none_child, none_tail}
use Rattle.judy_sl.proofs.lemmas.scans.ScanEntries.{met_along}
use Rattle.judy_sl.proofs.lemmas.scans.ScanWays.{on_start, on_moved, on_left, on_tail, on_last}
use Rattle.judy_sl.proofs.arena.Arena.any_turn.Goals as goal

pub loop-rest-init : goal.loop-rest-init
loop-rest-init c = record {
  on = on_start c.args.look (world_of c.args.self.now) c.args.key.now c.args.self.now.root.map refl (text_from_bytes c.args.key.now c.type_inv.key c.requires.without_zero);
  piece = c.fresh_piece-piece.ensures;
}

pub returns-in_default-clause-is_turn : goal.returns-in_default-clause-is_turn
returns-in_default-clause-is_turn c =
    let words = c.loop-rest.level.now.map in
    let on = c.loop-rest.invariant.on in
    let nearest = subst (λ p. IsNearestEntry c.args.look.side false words p (piece_in c.around-found.result.1)) c.loop-rest.invariant.piece c.around-found.ensures.nearest in
    let absent = sym (ap (λ p. get words p) c.loop-rest.invariant.piece) ∙ sym c.around-found.ensures.found ∙ c.in_default.is in
    let none = none_absent c.args.look (world_of c.args.self.now) (seat_in c.loop-rest.child) words on.scan.is_level (piece_of c.loop-rest.rest.now) (pieces (drop 8 c.loop-rest.rest.now)) absent in
    subst (IsTurn c.args.look (world_of c.args.self.now) c.args.key.now) (sym c.nearer-turn.ensures)
    (on_left c.args.look (world_of c.args.self.now) c.args.key.now c.loop-rest.child words c.loop-rest.rest.now c.loop-rest.turn on c.loop-rest-test.true
    c.around-found.result.1 nearest c.around-found.ensures.value none)

pub child-requires : goal.child-requires
child-requires c =
    let words = c.loop-rest.level.now.map in
    let on = c.loop-rest.invariant.on.scan in
    let entry = sym (ap (λ p. get words p) c.loop-rest.invariant.piece) ∙ sym c.around-found.ensures.found ∙ c.in-Some.is in
    taken_of c.args.self.now c.in-Some.at ((c.requires.is_arena.is_world.levels (seat_in c.loop-rest.child) words on.is_level).leads (piece_of c.loop-rest.rest.now) c.in-Some.at entry
    (piece-IsInner c.loop-rest.rest.now on.text c.loop-rest-test.true)).1

pub meets-met-requires : goal.meets-met-requires
meets-met-requires c = rw take_rest (text-drop 8 c.loop-rest.rest.now c.loop-rest.invariant.on.scan.text)

pub loop-rest-preserved : goal.loop-rest-preserved
loop-rest-preserved c =
    let words = c.loop-rest.level.now.map in
    let nearest = subst (λ p. IsNearestEntry c.args.look.side false words p (piece_in c.around-found.result.1)) c.loop-rest.invariant.piece c.around-found.ensures.nearest in
    let entry = sym (ap (λ p. get words p) c.loop-rest.invariant.piece) ∙ sym c.around-found.ensures.found ∙ c.in-Some.is in
    let child = c.in-Level.ensures in
    record {
      on =
          rw (take_rest, c.nearer-turn.ensures) (on_moved c.args.look (world_of c.args.self.now) c.args.key.now c.loop-rest.child words c.loop-rest.rest.now c.loop-rest.turn
          c.loop-rest.invariant.on c.loop-rest-test.true c.around-found.result.1 c.in-Some.at c.in-Level.next.now.map nearest c.around-found.ensures.value entry (ap node_of child));
      piece = c.first_piece-piece.ensures;
    }

pub returns-then-met-clause-is_turn : goal.returns-then-met-clause-is_turn
returns-then-met-clause-is_turn c =
    let entry = sym (ap (λ p. get c.loop-rest.level.now.map p) c.loop-rest.invariant.piece) ∙ sym c.around-found.ensures.found ∙ c.in-Some.is in
    let met = met_along c.args.look (world_of c.args.self.now) c.loop-rest.rest.now c.in-Tail.tail.0 c.loop-rest.invariant.on.scan.text
    (subst HasText c.in-Tail.ensures (c.requires.is_arena.texts c.in-Some.at)) c.meets-met.ensures in
    rw (c.nearer.ensures, c.loop-rest.invariant.piece) (on_tail c.args.look (world_of c.args.self.now) c.args.key.now c.loop-rest.child c.loop-rest.level.now.map
    c.loop-rest.rest.now c.loop-rest.turn c.loop-rest.invariant.on c.loop-rest-test.true c.in-Some.at c.in-Tail.tail.1 (pieces c.in-Tail.tail.0) entry (ap node_of c.in-Tail.ensures)
    (met ∙ c.if-met.true))

pub returns-else-met-clause-is_turn : goal.returns-else-met-clause-is_turn
returns-else-met-clause-is_turn c =
    let words = c.loop-rest.level.now.map in
    let on = c.loop-rest.invariant.on in
    let entry = sym (ap (λ p. get words p) c.loop-rest.invariant.piece) ∙ sym c.around-found.ensures.found ∙ c.in-Some.is in
    let met = met_along c.args.look (world_of c.args.self.now) c.loop-rest.rest.now c.in-Tail.tail.0 on.scan.text
    (subst HasText c.in-Tail.ensures (c.requires.is_arena.texts c.in-Some.at)) c.meets-met.ensures in
    let nearest = subst (λ p. IsNearestEntry c.args.look.side false words p (piece_in c.around-found.result.1)) c.loop-rest.invariant.piece c.around-found.ensures.nearest in
    let none = none_child c.args.look (world_of c.args.self.now) (seat_in c.loop-rest.child) words on.scan.is_level (piece_of c.loop-rest.rest.now) c.in-Some.at
    (pieces (drop 8 c.loop-rest.rest.now)) entry (piece-IsInner c.loop-rest.rest.now on.scan.text c.loop-rest-test.true)
    (none_tail c.args.look (world_of c.args.self.now) (suc c.in-Some.at) (pieces (drop 8 c.loop-rest.rest.now)) (pieces c.in-Tail.tail.0) c.in-Tail.tail.1
    (ap node_of c.in-Tail.ensures) (met ∙ c.if-met.false)) in
    subst (IsTurn c.args.look (world_of c.args.self.now) c.args.key.now) (sym c.nearer-turn.ensures)
    (on_left c.args.look (world_of c.args.self.now) c.args.key.now c.loop-rest.child words c.loop-rest.rest.now c.loop-rest.turn on c.loop-rest-test.true
    c.around-found.result.1 nearest c.around-found.ensures.value none)

pub returns-clause-is_turn : goal.returns-clause-is_turn
returns-clause-is_turn c =
    let words = c.loop-rest.level.now.map in
    let nearest = subst (λ p. IsNearestEntry c.args.look.side c.args.look.itself words p (piece_in c.last_entry.result)) c.loop-rest.invariant.piece c.last_entry.ensures.nearest in
    subst (IsTurn c.args.look (world_of c.args.self.now) c.args.key.now) (sym c.nearer-2.ensures)
    (on_last c.args.look (world_of c.args.self.now) c.args.key.now c.loop-rest.child words c.loop-rest.rest.now c.loop-rest.turn c.loop-rest.invariant.on c.last_entry.result
    (omega arith) nearest c.last_entry.ensures.value)
