use Rattle.std.proofs.Common.{◌∙◌, sym, ap, Some, arith, subst, refl, suc, true≢false}
use Rattle.std.proofs.lemmas.List.{take_rest}
use Rattle.std.specs.FinMap.{get}
use Rattle.judy_sl.specs.Pieces.{IsFinal, IsInner}
use Rattle.judy_sl.specs.Arenas.{node_of, HasText}
use Rattle.judy_sl.proofs.lemmas.pieces.PieceLemmas.{text_of_key}
use Rattle.judy_sl.proofs.lemmas.pieces.OnWay.{on-start, on-moved, found-tail, found-clash, found-none, on-taken}
use Rattle.judy_sl.proofs.lemmas.seats.Maps.{get-map, get-map_none}
use Rattle.judy_sl.proofs.lemmas.pieces.Looked.{never-final, ends-on, key-tail, last-value}
use Rattle.judy_sl.proofs.arena.Arena.get.Goals as goal

pub loop-rest-init : goal.loop-rest-init
loop-rest-init c = record { seat = 0; on = on-start _ _ _ refl; is_arena = c.requires.is_arena; ends = c.requires.ends }

pub returns-then-piece-eq0 : goal.returns-then-piece-eq0
returns-then-piece-eq0 c =
    sym (get-map_none c.args.self.now c.args.key.now (λ is_key. absurd (never-final _ _ _ _ _ c.loop-rest.invariant.on c.loop-rest-test.true
    (subst IsFinal c.first_piece-piece.ensures c.if-piece-eq0.true) (text_of_key _ is_key))))

pub returns-in_err-at : goal.returns-in_err-at
returns-in_err-at c =
    c.from_residual.ensures ∙ sym (get-map_none c.args.self.now c.args.key.now (λ is_key. found-none c.args.self.now c.requires.is_arena _ _ _ _ c.loop-rest.invariant.on
    (sym (ap (λ p. get c.loop-rest.level.now.map p) c.first_piece-piece.ensures) ∙ sym c.get.ensures ∙ c.in_err-at.was)))

pub child-requires : goal.child-requires
child-requires c =
    on-taken c.args.self.now c.requires.is_arena _ _ _ _ c.loop-rest.invariant.on (subst IsInner c.first_piece-piece.ensures c.if-piece-eq0.false) c.in_ok-at.at
    (sym (ap (λ p. get c.loop-rest.level.now.map p) c.first_piece-piece.ensures) ∙ sym c.get.ensures ∙ c.in_ok-at.was)

pub loop-rest-preserved : goal.loop-rest-preserved
loop-rest-preserved c =
    rw take_rest (record {
      seat = suc c.in_ok-at.at;
      on =
          on-moved _ _ _ _ _ c.loop-rest.invariant.on c.in_ok-at.at c.in-Level.next.now.map c.loop-rest-test.true (subst IsInner c.first_piece-piece.ensures c.if-piece-eq0.false)
          (sym (ap (λ p. get c.loop-rest.level.now.map p) c.first_piece-piece.ensures) ∙ sym c.get.ensures ∙ c.in_ok-at.was) (ap node_of c.in-Level.ensures);
      is_arena = c.requires.is_arena;
      ends = c.requires.ends;
    })

pub is-requires : goal.is-requires
is-requires c = rw take_rest (ends-on _ _ _ _ _ c.loop-rest.invariant.on c.requires.ends)

pub returns-then-is : goal.returns-then-is
returns-then-is c =
    let whole = subst IsInner c.first_piece-piece.ensures c.if-piece-eq0.false in
    let entry = sym (ap (λ p. get c.loop-rest.level.now.map p) c.first_piece-piece.ensures) ∙ sym c.get.ensures ∙ c.in_ok-at.was in
    let tailed = ap node_of c.in-Tail.ensures in
    let held = c.is.ensures.0 c.if-is.true ∙ take_rest c.loop-rest.rest.now 8 in
    ap (λ value. Some value) c.value.ensures ∙ sym (
    get-map c.args.self.now c.args.key.now (key-tail c.args.self.now c.requires.is_arena c.args.key.now
    (λ k. omega (arith, c.type_inv.key k)) c.requires.ends _ _ _ c.loop-rest.invariant.on c.loop-rest-test.true whole c.in_ok-at.at entry c.in-Tail.tail.0 c.in-Tail.tail.1 tailed held)
    ∙ found-tail _ _ _ _ _ c.loop-rest.invariant.on c.loop-rest-test.true whole c.in_ok-at.at entry c.in-Tail.tail.0 c.in-Tail.tail.1 tailed held)

pub returns-else-is : goal.returns-else-is
returns-else-is c =
    let child = c.in-Tail.ensures in
    sym (get-map_none c.args.self.now c.args.key.now (λ is_key. found-clash _ _ _ _ _ c.loop-rest.invariant.on c.loop-rest-test.true
    (subst IsInner c.first_piece-piece.ensures c.if-piece-eq0.false) c.in_ok-at.at (sym (ap (λ p. get c.loop-rest.level.now.map p) c.first_piece-piece.ensures) ∙
    sym c.get.ensures ∙ c.in_ok-at.was) c.in-Tail.tail.0 c.in-Tail.tail.1 (ap node_of child) (subst HasText child (c.requires.is_arena.texts c.in_ok-at.at))
    (λ e. true≢false (sym (c.is.ensures.1 (e ∙ sym (take_rest c.loop-rest.rest.now 8))) ∙ c.if-is.false)) (text_of_key _ is_key)))

pub returns : goal.returns
returns c =
    c.get-2.ensures ∙ ap (λ p. get c.loop-rest.level.now.map p) c.first_piece.ensures ∙ last-value c.args.self.now c.requires.is_arena c.args.key.now
    (λ k. omega (arith, c.type_inv.key k)) c.requires.ends _ _ _ c.loop-rest.invariant.on (omega arith)
