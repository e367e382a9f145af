use Rattle.std.proofs.Common.{◌≡◌, ◌+◌, [], ◌∷◌, ◌++◌, ◌∙◌, ℕ, suc, List, Some, refl, sym, ap, arith, length, drop, subst}
use Rattle.std.proofs.lemmas.List.{take_rest}
use Rattle.std.specs.FinMap.{get}
use Rattle.judy_sl.specs.Arenas.{world_of, node_of, HasText}
use Rattle.judy_sl.specs.Shrunk.{IsCut, IsDeeper}
use Rattle.judy_sl.proofs.lemmas.pieces.PieceLemmas.{text_of_key, piece-IsInner, text-drop}
use Rattle.judy_sl.proofs.lemmas.counts.PassedLevels.{noted-on, noted-tail, noted-last}
use Rattle.judy_sl.proofs.lemmas.pieces.Exact.{ends-text}
use Rattle.judy_sl.proofs.lemmas.pieces.OnWay.{on-start, on-short, start-deep, on-moved, moved-deep, found-tail, found-clash, found-none, found-last, on-taken}
use Rattle.judy_sl.proofs.lemmas.removals.Cuts.{cut-on, cut-last, cut-tail}
use Rattle.judy_sl.proofs.arena.Arena.find_cut.Goals as goal

pub loop-rest-init : goal.loop-rest-init
loop-rest-init g c = record { on = on-start _ _ _ refl; so_far = tt; is_arena = c.requires.is_arena; noted = []; has = c.requires.begins; ahead = refl; deep = sym (start-deep _ _ _ _) }

-- No more levels are passed than a key has whole pieces.
pub overflow_add-depth : goal.overflow_add-depth
overflow_add-depth g c =
    let deep = c.loop-rest.invariant.deep in
    let short = on-short _ _ _ _ _ c.loop-rest.invariant.on in
    let within = c.requires.is_key.is_bytes_key.within_limit in
    omega (arith, deep, short, within)

pub returns-in_err-at-clause-cut : goal.returns-in_err-at-clause-cut
returns-in_err-at-clause-cut g c =
    subst (IsCut (world_of c.args.self.now) c.args.key.now) (sym c.from_residual.ensures) (found-none c.args.self.now c.requires.is_arena _ _ _ _ c.loop-rest.invariant.on
    (sym (ap (λ p. get c.loop-rest.level.now.map p) c.first_piece-piece.ensures) ∙ sym c.get.ensures ∙ c.in_err-at.was))

pub child-requires : goal.child-requires
child-requires g c =
    on-taken c.args.self.now c.requires.is_arena _ _ _ _ c.loop-rest.invariant.on (piece-IsInner c.loop-rest.rest.now
    (c.loop-rest.invariant.on.text (text_of_key c.args.key.now c.requires.is_key)) c.loop-rest-test.true) c.in_ok-at.at
    (sym (ap (λ p. get c.loop-rest.level.now.map p) c.first_piece-piece.ensures) ∙ sym c.get.ensures ∙ c.in_ok-at.was)

pub loop-rest-preserved : goal.loop-rest-preserved
loop-rest-preserved g c =
    let deeper = subst (λ (xs : List ℕ). IsDeeper c.loop-rest.cut c.loop-rest.level.now.map (record {
      place = c.place_in.result;
      below = Some c.in_ok-at.at;
      left = length xs;
      depth = c.loop-rest.depth;
    }) c.deeper-last.result) (take_rest c.loop-rest.rest.now 8) c.deeper-last.ensures in
    rw take_rest (record {
      on =
          on-moved _ _ _ _ _ c.loop-rest.invariant.on c.in_ok-at.at c.in-Level.next.now.map c.loop-rest-test.true
          (piece-IsInner c.loop-rest.rest.now (c.loop-rest.invariant.on.text (text_of_key c.args.key.now c.requires.is_key)) c.loop-rest-test.true)
          (sym (ap (λ p. get c.loop-rest.level.now.map p) c.first_piece-piece.ensures) ∙ sym c.get.ensures ∙ c.in_ok-at.was) (ap node_of c.in-Level.ensures);
      so_far =
          cut-on (world_of c.args.self.now) c.args.key.now c.loop-rest.child c.loop-rest.level.now.map c.loop-rest.rest.now c.loop-rest.invariant.on
          (text_of_key c.args.key.now c.requires.is_key) c.loop-rest.cut c.loop-rest.invariant.so_far c.first_piece-piece.result c.first_piece-piece.ensures
          c.place_in.result c.place_in.ensures c.loop-rest.depth c.loop-rest.invariant.deep
          c.in_ok-at.at c.deeper-last.result c.loop-rest-test.true (sym c.get.ensures ∙ c.in_ok-at.was) deeper;
      is_arena = c.requires.is_arena;
      noted = c.loop-rest.invariant.noted ++ c.in_ok-at.at ∷ [];
      has = c.note.ensures c.loop-rest.invariant.noted c.loop-rest.invariant.has;
      ahead =
          noted-on _ _ _ c.loop-rest.invariant.on.is_level _ c.loop-rest-test.true c.in_ok-at.at (sym (ap (λ p. get c.loop-rest.level.now.map p) c.first_piece-piece.ensures) ∙
          sym c.get.ensures ∙ c.in_ok-at.was) c.in-Level.next.now.map (ap node_of c.in-Level.ensures) _ _ c.loop-rest.invariant.ahead;
      deep = (let one : c.loop-rest.depth + 1 ≡ suc c.loop-rest.depth = omega arith in
          one ∙ ap (λ n. suc n) c.loop-rest.invariant.deep ∙ sym (moved-deep _ _ _ _ _ c.loop-rest.invariant.on _ _ _ _ _ _));
    })

pub value_of-requires : goal.value_of-requires
value_of-requires g c = rw take_rest (ends-text (drop 8 c.loop-rest.rest.now) (text-drop 8 c.loop-rest.rest.now (c.loop-rest.invariant.on.text (text_of_key c.args.key.now c.requires.is_key))))

pub returns-in-Tail-clause-cut : goal.returns-in-Tail-clause-cut
returns-in-Tail-clause-cut g c =
    let deeper = subst (λ (xs : List ℕ). IsDeeper c.loop-rest.cut c.loop-rest.level.now.map (record {
      place = c.place_in.result;
      below = Some c.in_ok-at.at;
      left = length xs;
      depth = c.loop-rest.depth;
    }) c.deeper-last.result) (take_rest c.loop-rest.rest.now 8) c.deeper-last.ensures in
    let found = c.in_ok-value_of-in-Tail.ensures.same in
    let same = found.0 ∙ take_rest c.loop-rest.rest.now 8 in (
      cut-tail (world_of c.args.self.now) c.args.key.now c.in_ok-at.at (drop 8 c.loop-rest.rest.now) c.in-Tail.tail.0 c.in-Tail.tail.1 c.deeper-last.result
          (ap node_of c.in-Tail.ensures) same (cut-on
          (world_of c.args.self.now) c.args.key.now c.loop-rest.child c.loop-rest.level.now.map c.loop-rest.rest.now c.loop-rest.invariant.on
          (text_of_key c.args.key.now c.requires.is_key) c.loop-rest.cut c.loop-rest.invariant.so_far c.first_piece-piece.result c.first_piece-piece.ensures c.place_in.result
          c.place_in.ensures c.loop-rest.depth c.loop-rest.invariant.deep c.in_ok-at.at c.deeper-last.result c.loop-rest-test.true
          (sym c.get.ensures ∙ c.in_ok-at.was) deeper),
      found-tail _ _ _ _ _ c.loop-rest.invariant.on c.loop-rest-test.true (piece-IsInner c.loop-rest.rest.now
          (c.loop-rest.invariant.on.text (text_of_key c.args.key.now c.requires.is_key)) c.loop-rest-test.true) c.in_ok-at.at
          (sym (ap (λ p. get c.loop-rest.level.now.map p) c.first_piece-piece.ensures) ∙ sym c.get.ensures ∙ c.in_ok-at.was) c.in-Tail.tail.0 c.in-Tail.tail.1
          (ap node_of c.in-Tail.ensures) same ∙ ap (λ value. Some value) (sym found.1),
    )

pub returns-in_err-value_of-in-Tail-clause-cut : goal.returns-in_err-value_of-in-Tail-clause-cut
returns-in_err-value_of-in-Tail-clause-cut g c =
    let child = c.in-Tail.ensures in
    subst (IsCut (world_of c.args.self.now) c.args.key.now) (sym c.from_residual-in_err-value_of-in-Tail.ensures)
    (found-clash _ _ _ _ _ c.loop-rest.invariant.on c.loop-rest-test.true (piece-IsInner c.loop-rest.rest.now
    (c.loop-rest.invariant.on.text (text_of_key c.args.key.now c.requires.is_key)) c.loop-rest-test.true) c.in_ok-at.at
    (sym (ap (λ p. get c.loop-rest.level.now.map p) c.first_piece-piece.ensures) ∙ sym c.get.ensures ∙ c.in_ok-at.was) c.in-Tail.tail.0 c.in-Tail.tail.1
    (ap node_of child) (subst HasText child (c.requires.is_arena.texts c.in_ok-at.at)) (λ e. c.in_err-value_of-in-Tail.ensures.other refl (e ∙ sym (take_rest c.loop-rest.rest.now 8)))
    (text_of_key c.args.key.now c.requires.is_key))

pub returns-in_err-value-clause-cut : goal.returns-in_err-value-clause-cut
returns-in_err-value-clause-cut g c =
    subst (IsCut (world_of c.args.self.now) c.args.key.now) (sym c.from_residual-in_err-value.ensures)
    (found-none c.args.self.now c.requires.is_arena _ _ _ _ c.loop-rest.invariant.on (sym (ap (λ p. get c.loop-rest.level.now.map p) c.first_piece-piece-2.ensures) ∙
    sym c.get-2.ensures ∙ c.in_err-value.was))

pub returns-clause-cut : goal.returns-clause-cut
returns-clause-cut g c = (
  cut-last (world_of c.args.self.now) c.args.key.now c.loop-rest.child c.loop-rest.level.now.map c.loop-rest.rest.now c.loop-rest.invariant.on
      (text_of_key c.args.key.now c.requires.is_key) c.loop-rest.cut c.loop-rest.invariant.so_far c.first_piece-piece-2.result c.first_piece-piece-2.ensures
      c.place_in-2.result c.place_in-2.ensures c.loop-rest.depth c.loop-rest.invariant.deep
      c.in_ok-value.value c.deeper.result (omega arith) (sym c.get-2.ensures ∙ c.in_ok-value.was) c.deeper.ensures,
  found-last c.args.self.now c.requires.is_arena _ _ _ _ c.loop-rest.invariant.on (omega arith) ∙
      sym (ap (λ p. get c.loop-rest.level.now.map p) c.first_piece-piece-2.ensures) ∙ sym c.get-2.ensures ∙ c.in_ok-value.was,
)

-- ---- the levels that the way passed

pub returns-in-Tail-clause-passed : goal.returns-in-Tail-clause-passed
returns-in-Tail-clause-passed g c =
    λ some. subst (λ places. g.N.Notes.has c.loop-rest.notes places) (noted-tail _ _ _ c.loop-rest.invariant.on.is_level _ c.loop-rest-test.true c.in_ok-at.at
    (sym (ap (λ p. get c.loop-rest.level.now.map p) c.first_piece-piece.ensures) ∙ sym c.get.ensures ∙ c.in_ok-at.was) _ _ (ap node_of c.in-Tail.ensures) _ _ c.loop-rest.invariant.ahead)
    c.loop-rest.invariant.has

pub returns-clause-passed : goal.returns-clause-passed
returns-clause-passed g c =
    λ some. subst (λ places. g.N.Notes.has c.loop-rest.notes places) (noted-last _ _ _ c.loop-rest.invariant.on.is_level _ (omega arith) _ _ c.loop-rest.invariant.ahead) c.loop-rest.invariant.has
