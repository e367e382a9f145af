-- A list of records as callers see it, and its pages.
use Rattle.std.proofs.Common.{◌≡◌, ◌≢◌, ℕ, ◌+◌, ◌*◌, ◌<◌, ◌≤◌, ◌^◌, ◌⊎◌, List, length, get_or, set, map, Option, None, Some, inl, inr, refl, sym, ap, subst, ◌∙◌, arith}
use Rattle.std.specs.Global.{Global}
use Rattle.std.specs.declared.vec.Vec.{Vec}
use Rattle.std.specs.Vec.{with_item}
use Rattle.std.proofs.lemmas.Bool.{cases_eq}
use Rattle.std.proofs.lemmas.List.{get_or_read, get_or-map, length-set, map-set, set-get_or, get_or-set_same, get_or-set_other}
use Rattle.judy_records.specs.declared.records.Records.TheInside.{Inside}
use Rattle.judy_records.specs.Kinds.{Kind, full, roomy, gone, kind_of, first_of}
use Rattle.judy_records.specs.Pages.{size_of, start_of, page_of, rest_of, places_of, IsAt}
use Rattle.judy_records.specs.Spots.{Spot, free, held, IsHeld, IsNext, RecordList, spot_at, value_of, text_of, with_spot, with_value}
use Rattle.judy_records.specs.PageSpots.{PageList, spot_in, empty_page, with_spot_in, with_value_in}
use Rattle.judy_records.specs.Inside.{page_at, spots_to, spot_of, next_by, capacity_of, list_of, IsPageOf, IsOfKind, ArePages, AreRecords}
use Rattle.judy_records.proofs.PageOf.{shift-most, per-some, place-in}
use Rattle.judy_records.proofs.FreeLemmas.{held-inside}
use Rattle.judy_records.proofs.PagesHold.{held-less, held-page, held-spot, rest-in, start-in, of-kind, not-gone, kind-cases, pages-set, spots-set}
use Rattle.judy_records.proofs.PagesChange.{moved-none}

module _ (list : Inside) (are : AreRecords list) where
  abbrev pub per : ℕ
  per = 2 ^ list.shift

  pub some : 0 < per
  some = per-some list.shift

  pub shift-fits : list.shift ≤ 9
  shift-fits = (let is = are.shift_is in let most = shift-most list.size in omega (arith, is, most))

  -- The first place of a page is a word.
  pub start-fits : (number : ℕ) → number < length list.pages.items → start_of per number < 18446744073709551616
  start-fits number inside = (let start = start-in list.size per list.end some list.pages.items list.turns are.pages number inside in let most = are.most in omega (arith, start, most))

-- The next place isn't changed by a page with the same one.
pub next-kept : (next : Option ℕ) (short end : ℕ) (pages : List PageList) (number : ℕ) (new : PageList) → number < length pages → new.next ≡ (page_at pages number).next →
    next_by next short end (set pages number new) ≡ next_by next short end pages
next-kept None short end pages number new inside same = refl
next-kept (Some other) short end pages number new inside same = ap (λ n. start_of short other + n) (elim (cases_eq other number) [
  | inl here ↦
      ap (λ n. (page_at (set pages number new) n).next) here
      ∙ ap (λ (page : PageList). page.next) (get_or-set_same pages number new (empty_page 0) inside)
      ∙ same
      ∙ ap (λ n. (page_at pages n).next) (sym here)
  | inr apart ↦ ap (λ (page : PageList). page.next) (get_or-set_other pages number other new (empty_page 0) apart)
])

pub memory-kept : (pages : List PageList) (number : ℕ) (new : PageList) → number < length pages → new.capacity ≡ (page_at pages number).capacity →
    map capacity_of (set pages number new) ≡ map capacity_of pages
memory-kept pages number new inside same =
    map-set capacity_of pages number new
    ∙ ap (set (map capacity_of pages) number) (same ∙ sym (get_or-map capacity_of pages number (empty_page 0) 0 inside))
    ∙ set-get_or (map capacity_of pages) number 0

-- Another record in the place of one leaves the next place next.
pub next-set : (spots : List Spot) (next at : ℕ) (spot : Spot) → IsHeld (get_or spots at (free 0)) → IsHeld spot → IsNext spots next → IsNext (set spots at spot) next
next-set spots next at spot was is known =
    let inside = held-inside spots at was in
    let long = length-set spots at spot in record {
      within = (let within = known.within in omega (arith, within, long));
      is_free = λ stands. elim (cases_eq next at) [
        | inl here ↦ known.is_free (subst (λ n. IsHeld (get_or spots n (free 0))) (sym here) was)
        | inr apart ↦ known.is_free (subst IsHeld (get_or-set_other spots at next spot (free 0) apart) stands)
      ];
      last = λ e place less. elim (cases_eq place at) [
        | inl here ↦ subst (λ n. IsHeld (get_or (set spots at spot) n (free 0))) (sym here) (subst IsHeld (sym (get_or-set_same spots at spot (free 0) inside)) is)
        | inr apart ↦ subst IsHeld (sym (get_or-set_other spots at place spot (free 0) apart)) (known.last (e ∙ long) place (omega (arith, less, long)))
      ];
    }

-- ---- a record that stands

module _ (list : Inside) (are : AreRecords list) {seen : RecordList} (view_is : list_of list ≡ seen) (place : ℕ) (is : IsHeld (spot_at seen place)) where
  seen-is : IsHeld (spot_at (list_of list) place)
  seen-is = subst (λ list. IsHeld (spot_at list place)) (sym view_is) is

  module _ {number rest : ℕ} (sits : IsAt (per list are) place number rest) where
    pub seen-there : number < length list.pages.items
    seen-there =
        let there = held-page list.size (per list are) list.end (some list are) list.pages.items list.turns are.pages place seen-is in
        let same = sits.page_is in
        omega (arith, there, same)

    pub seen-less : rest < places_of (per list are) list.end number
    seen-less =
        let less = rest-in list.size (per list are) list.end (some list are) list.pages.items list.turns are.pages place
        (held-less list.size (per list are) list.end (some list are) list.pages.items list.turns are.pages place seen-is) in
        let places = ap (places_of (per list are) list.end) sits.page_is in
        let same = sits.rest_is in
        omega (arith, less, places, same)

    pub seen-start : start_of (per list are) number ≤ list.end
    seen-start = start-in list.size (per list are) list.end (some list are) list.pages.items list.turns are.pages number seen-there

    pub place-is : start_of (per list are) number + rest ≡ place
    place-is =
        let own = place-in (per list are) (some list are) place in
        let starts = ap (start_of (per list are)) sits.page_is in
        let same = sits.rest_is in
        omega (arith, own, starts, same)

    pub at-spot : spot_in (page_at list.pages.items number) rest ≡ spot_at seen place
    at-spot =
        (λ i. spot_in (page_at list.pages.items (sits.page_is i)) (sits.rest_is i))
        ∙ sym (held-spot list.size (per list are) list.end (some list are) list.pages.items list.turns are.pages place seen-is)
        ∙ ap (λ list. spot_at list place) view_is

    pub at-held : IsHeld (spot_in (page_at list.pages.items number) rest)
    at-held = subst IsHeld (sym at-spot) is

    module _ (page : PageList) (read : page ≡ get_or list.pages.items number page) where
      pub page-is : page ≡ page_at list.pages.items number
      page-is = get_or_read list.pages.items number page seen-there read (empty_page 0)

      pub seen-spot : spot_in page rest ≡ spot_at seen place
      seen-spot = ap (λ page. spot_in page rest) page-is ∙ at-spot

      pub seen-held : IsHeld (spot_in page rest)
      seen-held = subst IsHeld (sym seen-spot) is

      pub seen-size : page.size ≡ list.size
      seen-size = ap (λ (page : PageList). page.size) page-is ∙ (are.pages.each number seen-there).size_is

      -- Another one in its place.
      module _ (spot : Spot) (stands : IsHeld spot) where
        abbrev new : PageList
        new = with_spot_in page rest spot

        abbrev pub replaced : Inside
        replaced = record list { pages = with_item list.pages number new }

        old : IsPageOf list.size (per list are) list.end (kind_of list.turns number) number page
        old = subst (λ page. IsPageOf list.size (per list are) list.end (kind_of list.turns number) number page) (sym page-is) (are.pages.each number seen-there)

        new-known : (kind : Kind) → kind_of list.turns number ≡ kind → IsOfKind kind (places_of (per list are) list.end number) page → IsOfKind kind (places_of (per list are) list.end number) new
        new-known full e known = (length-set page.spots rest spot ∙ known.0, known.1, known.2)
        new-known roomy e known = (
          (let long = length-set page.spots rest spot in let most = known.0 in omega (arith, long, most)),
          known.1,
          (rest, subst IsHeld (sym (get_or-set_same page.spots rest spot (free 0) (held-inside page.spots rest seen-held))) stands),
          known.3,
        )
        new-known gone e known = absurd (not-gone list.size (per list are) list.end (some list are) list.pages.items list.turns are.pages number rest seen-there at-held e)

        new-of : IsPageOf list.size (per list are) list.end (kind_of list.turns number) number new
        new-of = record {
          size_is = old.size_is;
          next = next-set page.spots page.next rest spot seen-held stands old.next;
          known = new-known (kind_of list.turns number) refl old.known;
          within = old.within;
        }

        pub replaced-are : AreRecords replaced
        replaced-are = record {
          pages = pages-set list.size (per list are) list.end (some list are) list.pages.items list.turns are.pages number seen-there new (kind_of list.turns number) list.turns
              (moved-none list.turns number (kind_of list.turns number) are.pages.known refl) new-of;
          shift_is = are.shift_is;
          size_within = are.size_within;
          most = are.most;
        }

        pub replaced-list : list_of replaced ≡ with_spot seen place spot
        replaced-list =
            (λ i. record {
              size = list.size;
              spots = (spots-set list.size (per list are) list.end (some list are) list.pages.items list.turns are.pages number seen-there new rest seen-less spot
                  (get_or-set_same page.spots rest spot (free 0) (held-inside page.spots rest seen-held))
                  (λ other apart. get_or-set_other page.spots rest other spot (free 0) apart ∙ ap (λ page. spot_in page other) page-is)
                  ∙ ap (λ n. set (list_of list).spots n spot) place-is) i;
              next = next-kept (first_of list.turns.next_roomy list.turns.next_gone) (per list are) list.end list.pages.items number new seen-there (ap (λ (page : PageList). page.next) page-is) i;
              memory = memory-kept list.pages.items number new seen-there (ap (λ (page : PageList). page.capacity) page-is) i;
            })
            ∙ ap (λ list. with_spot list place spot) view_is

      -- The same where its value alone is another.
      pub valued-list : (value : ℕ) → list_of (replaced (held value (text_of (spot_in page rest))) tt) ≡ with_value seen place value
      valued-list value = replaced-list (held value (text_of (spot_in page rest))) tt ∙ ap (λ spot. with_spot seen place (held value (text_of spot))) seen-spot

pub own-at : (short place : ℕ) → IsAt short place (page_of short place) (rest_of short place)
own-at short place = record { page_is = refl; rest_is = refl }
