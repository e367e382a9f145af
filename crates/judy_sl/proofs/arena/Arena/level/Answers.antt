use Rattle.std.proofs.Common.{◌≡◌, ◌∙◌, ℕ, ◌<◌, ◌%◌, List, [], ◌∷◌, sym, ap, arith, length, refl}
use Rattle.std.proofs.lemmas.List.{take_rest}
use Rattle.std.specs.FinMap.{get}
use Rattle.judy_sl.specs.Pieces.{pieces}
use Rattle.judy_sl.specs.Arenas.{node_of}
use Rattle.judy_sl.proofs.lemmas.seats.LevelLemmas.{level_start, level_moved, alone_absent, alone_tail, level_ended, level_taken}
use Rattle.judy_sl.proofs.arena.Arena.level.Goals as goal

-- Fewer than eight bytes, in eights, are none.
nothing : (bytes : List ℕ) → length bytes < 8 → length bytes % 8 ≡ 0 → bytes ≡ []
nothing [] short whole = refl
nothing (byte ∷ bytes) short whole = let never : ⊥ = omega arith in absurd never

pub loop-rest-init : goal.loop-rest-init
loop-rest-init c = level_start c.args.self.now c.args.at.now c.requires.is_key c.args.self.now.root.map refl c.requires.whole

pub returns-in_err-place-clause-there : goal.returns-in_err-place-clause-there
returns-in_err-place-clause-there c =
    λ branch. absurd (alone_absent c.args.self.now c.args.at.now c.requires.is_key c.loop-rest.level.now.map c.loop-rest.rest.now c.loop-rest.invariant c.loop-rest-test.true
    (sym (ap (λ p. get c.loop-rest.level.now.map p) c.first_piece.ensures) ∙ sym c.get.ensures ∙ c.in_err-place.was) branch)

pub child-requires : goal.child-requires
child-requires c =
    level_taken c.args.self.now c.args.at.now c.requires.is_key c.loop-rest.level.now.map c.loop-rest.rest.now c.loop-rest.invariant c.loop-rest-test.true
    c.requires.is_arena c.in_ok-place.place (sym (ap (λ p. get c.loop-rest.level.now.map p) c.first_piece.ensures) ∙ sym c.get.ensures ∙ c.in_ok-place.was)

pub loop-rest-preserved : goal.loop-rest-preserved
loop-rest-preserved c =
    rw take_rest (level_moved c.args.self.now c.args.at.now c.requires.is_key c.loop-rest.level.now.map c.loop-rest.rest.now c.loop-rest.invariant c.loop-rest-test.true
    c.in_ok-place.place c.in-Level.next.now.map (sym (ap (λ p. get c.loop-rest.level.now.map p) c.first_piece.ensures) ∙ sym c.get.ensures ∙ c.in_ok-place.was) (ap node_of c.in-Level.ensures))

pub returns-in-Tail-clause-there : goal.returns-in-Tail-clause-there
returns-in-Tail-clause-there c = λ branch.
    absurd (alone_tail c.args.self.now c.args.at.now c.requires.is_key c.loop-rest.level.now.map c.loop-rest.rest.now c.loop-rest.invariant c.loop-rest-test.true
    c.in_ok-place.place c.in-Tail.field-0.1 (pieces c.in-Tail.field-0.0) (sym (ap (λ p. get c.loop-rest.level.now.map p) c.first_piece.ensures) ∙ sym c.get.ensures ∙ c.in_ok-place.was)
    (ap node_of c.in-Tail.ensures) branch)

pub returns-clause-keys : goal.returns-clause-keys
returns-clause-keys c =
    level_ended c.args.self.now c.args.at.now c.requires.is_key c.loop-rest.level.now.map c.loop-rest.rest.now c.loop-rest.invariant c.requires.is_arena
    (nothing c.loop-rest.rest.now (omega arith) c.loop-rest.invariant.whole)
