use Rattle.std.proofs.Common.{ℕ, ◌<◌, ◌^◌, ap, sym, ◌∙◌, arith}
use Rattle.std.specs.FinMap.{FinMap}
use Rattle.judy_model.specs.Keys.{word_order}
use Rattle.judy_word.proofs.InsertionFacts.{room-left, no_pairs, empty-free, bounded-inserted, added-is, map-inserted, get-absent}
use Rattle.judy_word.proofs.tree_array.TreeArray.set_with.Goals as goal

pub returns-then-is_full-clause-first : goal.returns-then-is_full-clause-first
returns-then-is_full-clause-first g c =
    rw (← c.self.view_is) (λ none.
    let full = sym c.is_full.ensures ∙ c.if-is_full.true in
    let taken = rw (← c.self.view_is) at full in
    sym (empty-free g.V.Words.WORDS _ c.args.key _ _ c.law.ensures c.self.invariant (no_pairs g.V.Words.WORDS _ c.args.key _ _ c.law.ensures c.self.invariant none)) ∙ taken)

pub returns-in_default-clause-first : goal.returns-in_default-clause-first
returns-in_default-clause-first g c =
    rw (← c.self.view_is) (λ none.
    let told = c.in_default.ensures.first (no_pairs g.V.Words.WORDS _ c.args.key _ _ c.law.ensures c.self.invariant none) in
    cc)

pub insert_with-requires : goal.insert_with-requires
insert_with-requires g c = (
  omega arith,
  (
    c.requires.one,
    (
      c.requires.no_value,
      λ absent.
          let vacant = sym c.is_full.ensures ∙ c.if-is_full.false in
          let free = rw (← c.self.view_is) at vacant in
          let room = room-left g.V.Words.WORDS _ c.args.key _ _ c.law.ensures c.self.invariant free absent in
          omega arith,
    ),
  ),
)

pub returns-in_default-clause-refused : goal.returns-in_default-clause-refused
returns-in_default-clause-refused g c =
    let vacant = sym c.is_full.ensures ∙ c.if-is_full.false in
    (rw (← c.self.view_is) (get-absent g.V.Words.WORDS c.self.inside.limit c.args.key _ c.self.inside.loose c.law.ensures c.self.invariant c.in_default.ensures.inserted.0), vacant)

pub invariant_of-self-2 : goal.invariant_of-self-2
invariant_of-self-2 g c =
    let vacant = sym c.is_full.ensures ∙ c.if-is_full.false in
    let free = rw (← c.self.view_is) at vacant in
    let small : c.args.key < 256 ^ 8 = omega arith in
    bounded-inserted g.V.Words.WORDS _ c.args.key _ _ c.law.ensures c.self.invariant _ small c.args.value c.requires.no_value c.in-Ok.added free c.in-Ok.ensures.inserted

pub returns-clause-answer : goal.returns-clause-answer
returns-clause-answer g c =
    let small : c.args.key < 256 ^ 8 = omega arith in
    rw (← c.self.view_is) (added-is g.V.Words.WORDS c.self.inside.limit c.args.key _ c.self.inside.loose c.law.ensures c.self.invariant _ small c.args.value
    c.requires.no_value c.in-Ok.added c.in-Ok.ensures.inserted)

pub returns-clause-set : goal.returns-clause-set
returns-clause-set g c =
    let small : c.args.key < 256 ^ 8 = omega arith in
    rw (← c.self.view_is)
    (ap (λ (map : FinMap word_order ℕ). record { limit = c.self.inside.limit; map = map })
    (map-inserted g.V.Words.WORDS c.self.inside.limit c.args.key _ c.self.inside.loose c.law.ensures c.self.invariant _ small c.args.value c.requires.no_value c.in-Ok.added c.in-Ok.ensures.inserted))
