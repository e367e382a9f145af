-- A page with a free place that isn't the one to be filled next.
use Rattle.std.proofs.Common.{◌≡◌, ℕ, ◌+◌, ◌<◌, length, Option, None, Some, inl, inr, refl, sym, ap, subst, ◌∙◌, arith}
use Rattle.judy_records.specs.declared.records.Records.TheInside.{Inside}
use Rattle.judy_records.specs.Kinds.{roomy, first_of}
use Rattle.judy_records.specs.Kinds as kinds
use Rattle.judy_records.specs.Pages.{per_of, start_of, page_of, rest_of, places_of, IsAt}
use Rattle.judy_records.specs.Spots.{RecordList, free, IsHeld, spot_at}
use Rattle.judy_records.specs.PageSpots.{PageList, spot_in}
use Rattle.judy_records.specs.Inside.{page_at, spot_of, next_by, list_of, AreRecords}
use Rattle.judy_records.specs.Memory.{HasFree, IsSpare}
use Rattle.judy_records.proofs.PageOf.{per-is}
use Rattle.judy_records.proofs.SpotsTo.{length-to, get-to}
use Rattle.judy_records.proofs.PagesHold.{place-at, spot-at, rest-in, of-kind, full-held, not-gone, kind-cases}
use Rattle.judy_records.proofs.ListHolds.{per, some, seen-there, at-held}

-- A record in a spare page has a free place beside it.
pub spare-free : (list : RecordList) (place : ℕ) → IsHeld (spot_at list place) → IsSpare list place → HasFree list
spare-free list place is spare = record {
  place = spare.other;
  within = spare.within;
  is_free = spare.is_free;
  used = record { place = place; held = is; here = sym spare.beside };
}

module _ (list : Inside) (are : AreRecords list) {seen : RecordList} (view_is : list_of list ≡ seen) (place : ℕ) (is : IsHeld (spot_at seen place))
    {number rest : ℕ} (sits : IsAt (per list are) place number rest) where
  abbrev here : number < length list.pages.items
  here = seen-there list are view_is place is sits

  abbrev page : PageList
  page = page_at list.pages.items number

  pub number-in : number < length list.turns.kinds
  number-in = (let there = here in let counted = are.pages.counted in omega (arith, there, counted))

  -- By the size of its texts a list has the same pages.
  paged : (at : ℕ) → page_of (per_of list.size) at ≡ page_of (per list are) at
  paged at = ap (λ n. page_of n at) (per-is list.size list.shift are.shift_is)

  -- Where a page is the one that is filled next, the next place is in it.
  next-in : (first : ℕ) → list.turns.next_roomy ≡ Some first → page_of (per list are) (list_of list).next ≡ first
  next-in first found =
      let known = are.pages.known.next_roomy.some first found in
      let counted = are.pages.counted in
      let there : first < length list.pages.items = omega (arith, known.0, counted) in
      let of = of-kind list.size (per list are) list.end (some list are) list.pages.items list.turns are.pages first there roomy known.1 in
      let at = place-at list.size (per list are) list.end (some list are) list.pages.items list.turns are.pages first (page_at list.pages.items first).next there of.known.1 in
      ap (λ next. page_of (per list are) (next_by (first_of next list.turns.next_gone) (per list are) list.end list.pages.items)) found
      ∙ sym at.0.page_is

  pub number-spare : kinds.IsSpare list.turns number → IsSpare seen place
  number-spare spare =
      let of = of-kind list.size (per list are) list.end (some list are) list.pages.items list.turns are.pages number here roomy spare.is_roomy in
      let at = place-at list.size (per list are) list.end (some list are) list.pages.items list.turns are.pages number page.next here of.known.1 in
      let stands = spot-at list.size (per list are) list.end (some list are) list.pages.items list.turns are.pages number page.next here of.known.1 in
      let long = length-to list.end (spot_of (per list are) list.pages.items) in
      subst (λ list. IsSpare list place) view_is (record {
        other = start_of (per list are) number + page.next;
        within = (let before = at.1 in omega (arith, before, long));
        is_free = λ held. of.next.is_free (subst IsHeld stands held);
        beside =
            paged (start_of (per list are) number + page.next)
            ∙ sym at.0.page_is
            ∙ sits.page_is
            ∙ sym (paged place);
        later = λ e. by list.turns.next_roomy refl (sym (paged (list_of list).next) ∙ e ∙ paged place ∙ sym sits.page_is);
      })
    where
      by : (next : Option ℕ) → list.turns.next_roomy ≡ next → page_of (per list are) (list_of list).next ≡ number → ⊥
      by None none same = are.pages.known.next_roomy.none none number number-in spare.is_roomy
      by (Some first) found same = spare.later (found ∙ ap (λ n. Some n) (sym (next-in first found) ∙ same))

  pub spare-number : IsSpare seen place → kinds.IsSpare list.turns number
  spare-number seen_spare =
      let spare = subst (λ list. IsSpare list place) (sym view_is) seen_spare in
      let long = length-to list.end (spot_of (per list are) list.pages.items) in
      let inside = spare.within in
      let less : spare.other < list.end = omega (arith, inside, long) in
      let same : page_of (per list are) spare.other ≡ number = sym (paged spare.other) ∙ spare.beside ∙ paged place ∙ sym sits.page_is in
      record {
        is_roomy = elim (kind-cases list.size (per list are) list.end (some list are) list.pages.items list.turns are.pages number) [
          | inl is_full ↦
              let least = rest-in list.size (per list are) list.end (some list are) list.pages.items list.turns are.pages spare.other less in
              let places = ap (places_of (per list are) list.end) same in
              let stands = full-held list.size (per list are) list.end (some list are) list.pages.items list.turns are.pages number (rest_of (per list are) spare.other) here is_full
              (omega (arith, least, places)) in
              absurd (spare.is_free (subst IsHeld (sym (get-to list.end (spot_of (per list are) list.pages.items) spare.other (free 0) less
              ∙ ap (λ n. spot_in (page_at list.pages.items n) (rest_of (per list are) spare.other)) same)) stands))
          | inr off ↦ elim off [
            | inl is_roomy ↦ is_roomy
            | inr is_gone ↦
                absurd (not-gone list.size (per list are) list.end (some list are) list.pages.items list.turns are.pages number rest here (at-held list are view_is place is sits) is_gone)
          ]
        ];
        later = λ e. spare.later (paged (list_of list).next ∙ next-in number e ∙ sits.page_is ∙ sym (paged place));
      }
