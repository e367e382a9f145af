use Rattle.std.proofs.Common.{◌≡◌, ◌<◌, ◌∙◌, ℕ, IsSome, get_or, ap, subst, arith}
use Rattle.std.proofs.lemmas.List.{get_or-take}
use Rattle.slab.specs.Slab.{Slab, ContainsKey, SameValues}
use Rattle.judy_sl.specs.LevelLists.{LevelParts, side_by_side}
use Rattle.judy_sl.proofs.lemmas.seats.Numbered.{held-within, same-both}
use Rattle.judy_sl.proofs.level_list.LevelList.trim.Goals as goal

pub invariant_of-self : goal.invariant_of-self
invariant_of-self c = λ index some.
    let there = c.self.invariant index (subst IsSome (c.shrink_to_fit.ensures.values index) some) in
    let within = held-within c.shrink_to_fit.new.self index some in
    omega (
      arith,
      there,
      within,
      c.capacity-places.ensures.slots,
      c.truncate.ensures.len,
      c.shrink_to_fit-2.ensures.len,
      c.self.inside.numbers.ok,
      c.shrink_to_fit-2.new.self.ok,
    )

pub returns : goal.returns
returns c =
    let words = c.self.inside.words in
    let after = c.shrink_to_fit.new.self in
    let numbers = c.self.inside.numbers.items in
    let others = c.shrink_to_fit-2.new.self.items in
    let kept : (index : ℕ) → ContainsKey after index → get_or others index 0 ≡ get_or numbers index 0 = λ index some.
    let within = held-within after index some in
    ap (λ items. get_or items index 0) (c.shrink_to_fit-2.ensures.items ∙ c.truncate.ensures.items)
    ∙ get_or-take c.capacity-places.result numbers index 0 (omega (arith, within, c.capacity-places.ensures.slots)) in
    subst (λ (levels : Slab LevelParts). SameValues levels (side_by_side after others)) c.self.view_is (same-both words after numbers others c.shrink_to_fit.ensures.values kept)
