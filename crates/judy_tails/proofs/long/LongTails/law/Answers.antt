use Rattle.std.proofs.Common.{◌≡◌, ℕ, List, Some, ◌∙◌, inl, inr, ap, subst, arith}
use Rattle.slab.specs.Slab.{get}
use Rattle.slab.proofs.SlabLemmas.{Contains-cons_cases, Contains-entries}
use Rattle.judy_model.specs.Keys.{IsWord}
use Rattle.judy_tails.specs.Long.{LongList, tail_at}
use Rattle.judy_tails.proofs.long.LongTails.law.Goals as goal

pub loop-tail-init : goal.loop-tail-init
loop-tail-init c =
    let left = c.into_iter-tail-iterator.ensures.into_iter_gives ∙ c.iter-tail-items.ensures.rest in (
      tt,
      tt,
      λ index tail found.
          let here : get c.self.inside.tails index ≡ Some tail = ap (λ (list : LongList). tail_at list index) c.self.view_is ∙ found in
          inl (rw left ((Contains-entries c.self.inside.tails index tail).1 here)),
    )

pub loop-tail-preserved : goal.loop-tail-preserved
loop-tail-preserved c =
    let at = c.in-Some.ensures.steps in (
      tt,
      tt,
      λ index tail found. elim (c.loop-tail.invariant.2 index tail found) [
        | inl left ↦ elim (Contains-cons_cases _ _ _ (rw at at left)) [
          | inl same ↦ inr (subst (λ (each : List ℕ × ℕ). IsWord each.1) (ap (λ (e : ℕ × (List ℕ × ℕ)). e.1) same) c.law.ensures)
          | inr rest ↦ inl rest
        ]
        | inr seen ↦ inr seen
      ],
    )

pub returns : goal.returns
returns c = λ index tail found. elim (c.loop-tail.invariant.2 index tail found) [
  | inl left ↦ let none = rw c.in-None.ensures.steps.0 at left in absurd (omega (arith, none.1))
  | inr seen ↦ seen
]
