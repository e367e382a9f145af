use Rattle.std.proofs.Common.{◌≡◌, ℕ, length, inl, inr, ap, sym, ◌∙◌, arith, subst}
use Rattle.std.proofs.lemmas.Bool.{cases_lt}
use Rattle.std.proofs.lemmas.List.{get_or_read}
use Rattle.judy_model.specs.Keys.{IsWord}
use Rattle.judy_records.specs.Pages.{page_of, rest_of}
use Rattle.judy_records.specs.Spots.{IsHeld, value_of}
use Rattle.judy_records.specs.PageSpots.{PageList, spot_in, empty_page}
use Rattle.judy_records.specs.Inside.{page_at}
use Rattle.judy_records.proofs.ListHolds.{per, seen-there, at-held, at-spot, own-at}
use Rattle.judy_records.proofs.records.Records.values_law.Goals as goal

pub loop-page-preserved : goal.loop-page-preserved
loop-page-preserved c = λ number at before is. elim (cases_lt number c.loop-page.page-index) [
  | inl less ↦ c.loop-page.invariant number at less is
  | inr last ↦
      let here : number ≡ c.loop-page.page-index = omega (arith, before, last) in
      let read : c.page-item.result ≡ page_at c.deref-page-items.result.now number =
      get_or_read c.deref-page-items.result.now c.loop-page.page-index c.page-item.result c.loop-page-test.true c.page-item.is (empty_page 0) ∙ ap (page_at c.deref-page-items.result.now) (sym here) in
      subst (λ (page : PageList). IsWord (value_of (spot_in page at))) read
      (c.values_law.ensures at (subst (λ (page : PageList). IsHeld (spot_in page at)) (sym read) is))
]

pub returns : goal.returns
returns c = λ place is.
    let list = c.self.inside in
    let are = c.self.invariant in
    let at = own-at (per list are) place in
    let there = seen-there list are c.self.view_is place is at in
    let held = at-held list are c.self.view_is place is at in
    let value = c.deref-page-items.ensures.value in
    subst IsWord (ap (λ items. value_of (spot_in (page_at items (page_of (per list are) place)) (rest_of (per list are) place))) value ∙ ap value_of (at-spot list are c.self.view_is place is at))
    (c.loop-page.invariant (page_of (per list are) place) (rest_of (per list are) place) (omega (arith, there, c.loop-page-test.false, ap length value))
    (subst (λ items. IsHeld (spot_in (page_at items (page_of (per list are) place)) (rest_of (per list are) place))) (sym value) held))
