use Rattle.std.proofs.Common.{Some, None, cond, ap, sym, ◌∙◌}
use Rattle.judy_model.specs.Keys.{word_order}
use Rattle.std.proofs.Common.{ℕ}
use Rattle.std.specs.FinMap.{FinMap}
use Rattle.judy_word.proofs.RemovalFacts.{bounded-removed, value-held, map-removed}
use Rattle.judy_word.proofs.tree_array.TreeArray.take.Goals as goal

pub invariant_of-self : goal.invariant_of-self
invariant_of-self g c = bounded-removed g.V.Words.WORDS c.self.inside.limit c.args.key _ _ c.remove-removed.result c.law.ensures c.remove-removed.ensures _ c.self.invariant

pub returns-then-removed-clause-answer : goal.returns-then-removed-clause-answer
returns-then-removed-clause-answer g c =
    rw (← c.self.view_is) (ap (λ was. cond was (Some c.remove-removed.result.value) None) (sym c.if-removed.true) ∙
    value-held g.V.Words.WORDS c.self.inside.limit c.args.key _ _ c.remove-removed.result c.law.ensures c.remove-removed.ensures)

pub returns-clause-answer : goal.returns-clause-answer
returns-clause-answer g c =
    rw (← c.self.view_is) (ap (λ was. cond was (Some c.remove-removed.result.value) None) (sym c.if-removed.false) ∙
    value-held g.V.Words.WORDS c.self.inside.limit c.args.key _ _ c.remove-removed.result c.law.ensures c.remove-removed.ensures)

pub returns-then-removed-clause-removed : goal.returns-then-removed-clause-removed
returns-then-removed-clause-removed g c =
    rw (← c.self.view_is)
    (ap (λ (map : FinMap word_order ℕ). record { limit = c.self.inside.limit; map = map }) (map-removed g.V.Words.WORDS c.self.inside.limit c.args.key _ _
    c.remove-removed.result c.law.ensures c.remove-removed.ensures))

pub returns-clause-removed : goal.returns-clause-removed
returns-clause-removed g c =
    rw (← c.self.view_is)
    (ap (λ (map : FinMap word_order ℕ). record { limit = c.self.inside.limit; map = map }) (map-removed g.V.Words.WORDS c.self.inside.limit c.args.key _ _
    c.remove-removed.result c.law.ensures c.remove-removed.ensures))
