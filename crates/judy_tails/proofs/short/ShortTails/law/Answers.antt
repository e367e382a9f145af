use Rattle.std.proofs.Common.{◌≡◌, ◌%◌, List, IsSome, length, refl, ⊎_elim, ap, sym, ◌∙◌, arith, subst}
use Rattle.std.proofs.lemmas.Bool.{cases_lt}
use Rattle.std.proofs.lemmas.List.{get_or_read}
use Rattle.judy_model.specs.Keys.{IsWord}
use Rattle.judy_records.specs.Spots.{RecordList, IsHeld, spot_at, value_of, empty_list}
use Rattle.judy_tails.specs.Short.{ShortLists, tail_at}
use Rattle.judy_tails.proofs.ListLemmas.{list_at, is-inside, values-are}
use Rattle.judy_tails.proofs.short.ShortTails.law.Goals as goal

pub loop-list-preserved : goal.loop-list-preserved
loop-list-preserved c = λ number index before. ⊎_elim
    (λ less. c.loop-list.invariant number index less)
    (λ last.
    let here : number ≡ c.loop-list.list-index = omega (arith, before, last) in
    let read = get_or_read c.deref-list-items.result.now c.loop-list.list-index c.list-item.result c.loop-list-test.true c.list-item.is (empty_list 0) ∙
    ap (list_at c.deref-list-items.result.now) (sym here) in
    subst (λ (list : RecordList). IsHeld (spot_at list index) → IsWord (value_of (spot_at list index))) read (c.values_law.ensures index))
    (cases_lt number c.loop-list.list-index)

pub returns : goal.returns
returns c = λ place tail is.
    let lists = c.self.inside.lists.items in
    let here = ap (λ (all : ShortLists). tail_at all place) c.self.view_is ∙ is in
    values-are lists place tail here (λ index.
    subst (λ (lists : List RecordList). IsHeld (spot_at (list_at lists (place % 256)) index) → IsWord (value_of (spot_at (list_at lists (place % 256)) index))) c.deref-list-items.ensures.value
    (c.loop-list.invariant (place % 256) index (let inside = is-inside lists place (subst IsSome (sym here) refl) in
    omega (arith, inside, c.loop-list-test.false, ap length c.deref-list-items.ensures.value))))
