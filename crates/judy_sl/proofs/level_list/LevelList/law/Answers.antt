use Rattle.std.proofs.Common.{◌≡◌, Some, ◌∙◌, inl, inr, sym, ap, subst, arith}
use Rattle.slab.specs.Slab.{Slab, get}
use Rattle.slab.proofs.SlabLemmas.{Contains-cons_cases, Contains-entries}
use Rattle.judy_model.specs.Keys.{IsWord, word_order}
use Rattle.judy_model.specs.Arrays.{ArrayOf, IsArrayOf}
use Rattle.judy_sl.specs.LevelLists.{LevelParts, words_in}
use Rattle.judy_sl.proofs.lemmas.seats.Numbered.{words-here}
use Rattle.judy_sl.proofs.level_list.LevelList.law.Goals as goal

pub loop-words-init : goal.loop-words-init
loop-words-init c =
    let left = c.into_iter-words-iterator.ensures.into_iter_gives ∙ c.iter-words-items.ensures.rest in (
      tt,
      tt,
      λ index words found.
          let here : get c.self.inside.words index ≡ Some words = sym (words-here c.self.inside.words c.self.inside.numbers.items index) ∙
          ap (λ (levels : Slab LevelParts). words_in (get levels index)) c.self.view_is ∙ found in
          inl (rw left ((Contains-entries c.self.inside.words index words).1 here)),
    )

pub loop-words-preserved : goal.loop-words-preserved
loop-words-preserved c =
    let at = c.in-Some.ensures.steps in (
      tt,
      tt,
      λ index words found. elim (c.loop-words.invariant.2 index words found) [
        | inl left ↦ elim (Contains-cons_cases _ _ _ (rw at at left)) [
          | inl same ↦ inr (subst (λ (each : ArrayOf word_order). IsArrayOf IsWord each) (ap (λ e. e.1) same) c.array_law.ensures)
          | inr rest ↦ inl rest
        ]
        | inr seen ↦ inr seen
      ],
    )

pub returns : goal.returns
returns c = λ index words found. elim (c.loop-words.invariant.2 index words found) [
  | inl left ↦ let none = rw c.in-None.ensures.steps.0 at left in absurd (omega (arith, none.1))
  | inr seen ↦ seen
]
