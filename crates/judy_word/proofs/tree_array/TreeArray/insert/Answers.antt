use Rattle.std.proofs.Common.{ℕ, ◌<◌, ◌^◌, ap, sym, ◌∙◌, arith}
use Rattle.std.specs.FinMap.{FinMap}
use Rattle.judy_model.specs.Keys.{word_order}
use Rattle.judy_word.proofs.InsertionFacts.{room-left, no_pairs, empty-free, get-absent}
use Rattle.judy_word.proofs.ExchangeFacts.{bounded-exchanged, was-is, map-exchanged}
use Rattle.judy_word.proofs.tree_array.TreeArray.insert.Goals as goal

pub returns-then-is_full-clause-first : goal.returns-then-is_full-clause-first
returns-then-is_full-clause-first g c =
    rw (← c.self.view_is) (λ none.
    let full = sym c.is_full.ensures ∙ c.if-is_full.true in
    let taken = rw (← c.self.view_is) at full in
    sym (empty-free g.V.Words.WORDS _ c.args.key _ _ c.law.ensures c.self.invariant (no_pairs g.V.Words.WORDS _ c.args.key _ _ c.law.ensures c.self.invariant none)) ∙ taken)

pub returns-in_default-clause-first : goal.returns-in_default-clause-first
returns-in_default-clause-first g c =
    rw (← c.self.view_is) (λ none.
    let told = c.in_default.ensures.first (no_pairs g.V.Words.WORDS _ c.args.key _ _ c.law.ensures c.self.invariant none) in
    cc)

pub exchange-requires : goal.exchange-requires
exchange-requires g c = (
  omega arith,
  (
    c.requires.words,
    λ absent.
        let vacant = sym c.is_full.ensures ∙ c.if-is_full.false in
        let free = rw (← c.self.view_is) at vacant in
        let room = room-left g.V.Words.WORDS _ c.args.key _ _ c.law.ensures c.self.invariant free absent in
        omega arith,
  ),
)

pub returns-in_default-clause-refused : goal.returns-in_default-clause-refused
returns-in_default-clause-refused g c =
    let vacant = sym c.is_full.ensures ∙ c.if-is_full.false in
    (rw (← c.self.view_is) (get-absent g.V.Words.WORDS c.self.inside.limit c.args.key _ c.self.inside.loose c.law.ensures c.self.invariant c.in_default.ensures.exchanged.0), vacant)

pub invariant_of-self-2 : goal.invariant_of-self-2
invariant_of-self-2 g c =
    let vacant = sym c.is_full.ensures ∙ c.if-is_full.false in
    let free = rw (← c.self.view_is) at vacant in
    let small : c.args.key < 256 ^ 8 = omega arith in
    bounded-exchanged g.V.Words.WORDS _ c.args.key _ _ c.law.ensures c.self.invariant _ small c.args.value c.requires.words c.in-Ok.was free c.in-Ok.ensures.exchanged

pub returns-clause-answer : goal.returns-clause-answer
returns-clause-answer g c =
    let small : c.args.key < 256 ^ 8 = omega arith in
    rw (← c.self.view_is) (was-is g.V.Words.WORDS c.self.inside.limit c.args.key _ c.self.inside.loose c.law.ensures c.self.invariant _ small c.args.value
    c.requires.words c.in-Ok.was c.in-Ok.ensures.exchanged)

pub returns-clause-put : goal.returns-clause-put
returns-clause-put g c =
    let small : c.args.key < 256 ^ 8 = omega arith in
    rw (← c.self.view_is)
    (ap (λ (map : FinMap word_order ℕ). record { limit = c.self.inside.limit; map = map })
    (map-exchanged g.V.Words.WORDS c.self.inside.limit c.args.key _ c.self.inside.loose c.law.ensures c.self.invariant _ small c.args.value c.requires.words c.in-Ok.was c.in-Ok.ensures.exchanged))
