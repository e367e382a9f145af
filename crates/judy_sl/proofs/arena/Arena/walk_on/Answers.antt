use Rattle.std.proofs.Common.{[], ◌∷◌, ◌++◌, ◌∙◌, sym, ap, arith, subst, refl, true≢false}
use Rattle.std.proofs.lemmas.List.{take_rest}
use Rattle.std.specs.FinMap.{get}
use Rattle.judy_sl.specs.Pieces.{IsFinal, IsInner}
use Rattle.judy_sl.specs.Arenas.{node_of, HasText}
use Rattle.judy_sl.proofs.lemmas.pieces.OnWay.{on-gap, on-last, on-moved, on-tail, on-clash, on-taken, at-place}
use Rattle.judy_sl.proofs.lemmas.pieces.Looked.{never-final, ends-on, key-tail, key-last}
use Rattle.judy_sl.proofs.lemmas.counts.PassedLevels.{noted-on, noted-none, noted-tail, noted-last}
use Rattle.judy_sl.proofs.arena.Arena.walk_on.Goals as goal

pub loop-rest-init : goal.loop-rest-init
loop-rest-init g c = rw take_rest (record { on = c.requires.on; is_arena = c.requires.is_arena; ends = c.requires.ends; noted = []; has = c.requires.begins; left = refl })

pub returns-then-piece-eq0-clause-way : goal.returns-then-piece-eq0-clause-way
returns-then-piece-eq0-clause-way g c = λ text. absurd (never-final _ _ _ _ _ c.loop-rest.invariant.on c.loop-rest-test.true (subst IsFinal c.first_piece-piece.ensures c.if-piece-eq0.true) text)

pub returns-in_default-clause-way : goal.returns-in_default-clause-way
returns-in_default-clause-way g c = λ text.
    on-gap _ _ _ _ c.loop-rest.child _ _ c.loop-rest.invariant.on c.place_in-in_default.ensures c.first_piece-piece.ensures (sym c.get.ensures ∙ c.in_default.is) text

pub returns-in-Some-get-clause-way : goal.returns-in-Some-get-clause-way
returns-in-Some-get-clause-way g c = λ text.
    on-last _ _ _ _ c.loop-rest.child _ _ c.loop-rest.invariant.on c.place_in-in-Some-get.ensures c.first_piece-piece-2.ensures (omega arith) _ (sym c.get-2.ensures ∙ c.in-Some-get.is)

pub returns-in-Some-get-clause-there : goal.returns-in-Some-get-clause-there
returns-in-Some-get-clause-there g c = λ place is.
    key-last c.args.self.now c.requires.is_arena c.args.key.now (λ k. omega (arith, c.type_inv.key k)) c.requires.ends _ _ _ c.loop-rest.invariant.on (omega arith) _
    (sym (ap (λ p. get c.loop-rest.level.now.map p) c.first_piece-piece-2.ensures) ∙ sym c.get-2.ensures ∙ c.in-Some-get.is)

pub returns-in-None-clause-way : goal.returns-in-None-clause-way
returns-in-None-clause-way g c = λ text.
    on-gap _ _ _ _ c.loop-rest.child _ _ c.loop-rest.invariant.on c.place_in-in-None.ensures c.first_piece-piece-2.ensures (sym c.get-2.ensures ∙ c.in-None.is) text

pub child-requires : goal.child-requires
child-requires g c =
    on-taken c.args.self.now c.requires.is_arena _ _ _ _ c.loop-rest.invariant.on (subst IsInner c.first_piece-piece.ensures c.if-piece-eq0.false) c.in-Some.at
    (sym (ap (λ p. get c.loop-rest.level.now.map p) c.first_piece-piece.ensures) ∙ sym c.get.ensures ∙ c.in-Some.is)

pub loop-rest-preserved : goal.loop-rest-preserved
loop-rest-preserved g c =
    rw take_rest (record {
      on =
          on-moved _ _ _ _ _ c.loop-rest.invariant.on c.in-Some.at c.in-Level.next.now.map c.loop-rest-test.true (subst IsInner c.first_piece-piece.ensures c.if-piece-eq0.false)
          (sym (ap (λ p. get c.loop-rest.level.now.map p) c.first_piece-piece.ensures) ∙ sym c.get.ensures ∙ c.in-Some.is) (ap node_of c.in-Level.ensures);
      is_arena = c.requires.is_arena;
      ends = c.requires.ends;
      noted = c.loop-rest.invariant.noted ++ c.in-Some.at ∷ [];
      has = c.note.ensures c.loop-rest.invariant.noted c.loop-rest.invariant.has;
      left =
          noted-on _ _ _ c.loop-rest.invariant.on.is_level _ c.loop-rest-test.true c.in-Some.at (sym (ap (λ p. get c.loop-rest.level.now.map p) c.first_piece-piece.ensures) ∙
          sym c.get.ensures ∙ c.in-Some.is) c.in-Level.next.now.map (ap node_of c.in-Level.ensures) _ _ c.loop-rest.invariant.left;
    })

pub is-requires : goal.is-requires
is-requires g c = rw take_rest (ends-on _ _ _ _ _ c.loop-rest.invariant.on c.requires.ends)

pub returns-then-is-clause-way : goal.returns-then-is-clause-way
returns-then-is-clause-way g c = λ text.
    on-tail _ _ _ _ _ c.loop-rest.invariant.on c.loop-rest-test.true (subst IsInner c.first_piece-piece.ensures c.if-piece-eq0.false) c.in-Some.at
    (sym (ap (λ p. get c.loop-rest.level.now.map p) c.first_piece-piece.ensures) ∙ sym c.get.ensures ∙ c.in-Some.is) c.in-Tail.tail.0 c.in-Tail.tail.1
    (ap node_of c.in-Tail.ensures) (c.is.ensures.0 c.if-is.true ∙ take_rest c.loop-rest.rest.now 8)

pub returns-then-is-clause-there : goal.returns-then-is-clause-there
returns-then-is-clause-there g c = λ place is.
    key-tail c.args.self.now c.requires.is_arena c.args.key.now (λ k. omega (arith, c.type_inv.key k)) c.requires.ends _ _ _ c.loop-rest.invariant.on c.loop-rest-test.true
    (subst IsInner c.first_piece-piece.ensures c.if-piece-eq0.false) c.in-Some.at (sym (ap (λ p. get c.loop-rest.level.now.map p) c.first_piece-piece.ensures) ∙
    sym c.get.ensures ∙ c.in-Some.is) c.in-Tail.tail.0 c.in-Tail.tail.1 (ap node_of c.in-Tail.ensures) (c.is.ensures.0 c.if-is.true ∙ take_rest c.loop-rest.rest.now 8)

pub returns-else-is-clause-way : goal.returns-else-is-clause-way
returns-else-is-clause-way g c = λ text.
    let child = c.in-Tail.ensures in
    rw take_rest (on-clash _ _ _ _ _ c.loop-rest.invariant.on c.loop-rest-test.true (subst IsInner c.first_piece-piece.ensures c.if-piece-eq0.false) c.in-Some.at
    (sym (ap (λ p. get c.loop-rest.level.now.map p) c.first_piece-piece.ensures) ∙ sym c.get.ensures ∙ c.in-Some.is) c.in-Tail.tail.0 c.in-Tail.tail.1 (ap node_of child)
    (subst HasText child (c.requires.is_arena.texts c.in-Some.at)) (λ e. true≢false (sym (c.is.ensures.1 (e ∙ sym (take_rest c.loop-rest.rest.now 8))) ∙ c.if-is.false)) text _
    (let here = at-place c.loop-rest.child c.first_piece-piece.result _ c.place_in-else-is.ensures in (here.0, sym c.first_piece-piece.ensures ∙ here.1)))

-- ---- the levels that it has passed

pub returns-then-piece-eq0-clause-passed : goal.returns-then-piece-eq0-clause-passed
returns-then-piece-eq0-clause-passed g c = λ text. absurd (never-final _ _ _ _ _ c.loop-rest.invariant.on c.loop-rest-test.true (subst IsFinal c.first_piece-piece.ensures c.if-piece-eq0.true) text)

pub returns-in_default-clause-passed : goal.returns-in_default-clause-passed
returns-in_default-clause-passed g c =
    λ text. subst (λ places. g.N.Notes.has c.loop-rest.notes places) (noted-none _ _ _ c.loop-rest.invariant.on.is_level _
    (sym (ap (λ p. get c.loop-rest.level.now.map p) c.first_piece-piece.ensures) ∙ sym c.get.ensures ∙ c.in_default.is) _ _ c.loop-rest.invariant.left) c.loop-rest.invariant.has

pub returns-then-is-clause-passed : goal.returns-then-is-clause-passed
returns-then-is-clause-passed g c =
    λ text. subst (λ places. g.N.Notes.has c.loop-rest.notes places) (noted-tail _ _ _ c.loop-rest.invariant.on.is_level _ c.loop-rest-test.true c.in-Some.at
    (sym (ap (λ p. get c.loop-rest.level.now.map p) c.first_piece-piece.ensures) ∙ sym c.get.ensures ∙ c.in-Some.is) _ _ (ap node_of c.in-Tail.ensures) _ _ c.loop-rest.invariant.left)
    c.loop-rest.invariant.has

pub returns-else-is-clause-passed : goal.returns-else-is-clause-passed
returns-else-is-clause-passed g c =
    λ text. subst (λ places. g.N.Notes.has c.loop-rest.notes places) (noted-tail _ _ _ c.loop-rest.invariant.on.is_level _ c.loop-rest-test.true c.in-Some.at
    (sym (ap (λ p. get c.loop-rest.level.now.map p) c.first_piece-piece.ensures) ∙ sym c.get.ensures ∙ c.in-Some.is) _ _ (ap node_of c.in-Tail.ensures) _ _ c.loop-rest.invariant.left)
    c.loop-rest.invariant.has

pub returns-in-Some-get-clause-passed : goal.returns-in-Some-get-clause-passed
returns-in-Some-get-clause-passed g c =
    λ text. subst (λ places. g.N.Notes.has c.loop-rest.notes places) (noted-last _ _ _ c.loop-rest.invariant.on.is_level _ (omega arith) _ _ c.loop-rest.invariant.left) c.loop-rest.invariant.has

pub returns-in-None-clause-passed : goal.returns-in-None-clause-passed
returns-in-None-clause-passed g c =
    λ text. subst (λ places. g.N.Notes.has c.loop-rest.notes places) (noted-last _ _ _ c.loop-rest.invariant.on.is_level _ (omega arith) _ _ c.loop-rest.invariant.left) c.loop-rest.invariant.has
