-- The pages of a list where others are next, or where the last one, which has gone, isn't there.
use Rattle.std.proofs.Common.{◌≡◌, ℕ, ◌+◌, ◌<◌, ◌≤◌, inl, inr, List, [], ◌∷◌, ◌++◌, length, get_or, refl, sym, ap, subst, ◌∙◌, arith}
use Rattle.std.proofs.lemmas.Bool.{cases_lt}
use Rattle.std.proofs.lemmas.List.{length_push, get_or_past, get_or_append_left}
use Rattle.judy_records.specs.Kinds.{gone, Kinds, kind_of, IsShorter, AreAlike}
use Rattle.judy_records.specs.Pages.{size_of, start_of, page_of, rest_of, places_of}
use Rattle.judy_records.specs.Spots.{Spot, free, RecordList}
use Rattle.judy_records.specs.Memory.{HoldsSame}
use Rattle.judy_records.specs.PageSpots.{PageList, spot_in, empty_page}
use Rattle.judy_records.specs.Inside.{page_at, spots_to, spot_of, IsOfKind, IsPageOf, ArePages}
use Rattle.judy_records.proofs.PageOf.{start-next, start-least, page-less, place-less}
use Rattle.judy_records.proofs.SpotsTo.{length-to, get-to}
use Rattle.judy_records.proofs.PagesHold.{places-are, page-in, of-kind}

pub pages-alike : (size per end : ℕ) (pages : List PageList) (kinds now : Kinds) → ArePages size per end pages kinds → AreAlike kinds now → ArePages size per end pages now
pages-alike size per end pages kinds now are alike = record {
  known = alike.known;
  counted = alike.long ∙ are.counted;
  enough = are.enough;
  few = are.few;
  each = λ number inside. subst (λ kind. IsPageOf size per end kind number (page_at pages number)) (sym (alike.each number)) (are.each number inside);
}

module _ (size per end : ℕ) (some : 0 < per) (pages rest : List PageList) (last : PageList) (is : pages ≡ rest ++ last ∷ []) (kinds now : Kinds) (are : ArePages size per end pages kinds)
    (shorter : IsShorter kinds now) where
  long : length pages ≡ length rest + 1
  long = ap length is ∙ length_push rest last

  pub trimmed-counted : length now.kinds ≡ length rest
  trimmed-counted = (let more = long in let counted = are.counted in let less = shorter.long in omega (arith, more, counted, less))

  last-of : IsPageOf size per end gone (length rest) (page_at pages (length rest))
  last-of =
      let more = long in
      of-kind size per end some pages kinds are (length rest) (omega (arith, more)) gone (ap (kind_of kinds) (sym trimmed-counted) ∙ shorter.last)

  pub trimmed-start : start_of per (length rest) < end
  trimmed-start =
      let places = last-of.known.1 in
      elim (places-are per end (length rest)) [
        | inl part ↦ omega (arith, part, places)
        | inr whole ↦ omega (arith, whole, places)
      ]

  first-page : (number : ℕ) → number < length rest → page_at pages number ≡ page_at rest number
  first-page number inside = ap (λ all. page_at all number) is ∙ get_or_append_left rest (last ∷ []) (empty_page 0) number inside

  same-places : (number : ℕ) → number < length rest → places_of per end number ≡ places_of per (start_of per (length rest)) number
  same-places number inside =
      let next = start-next per some number in
      let least = start-least per some (number + 1) (length rest) (omega (arith, inside)) in
      let start = trimmed-start in
      let was : places_of per end number ≡ size_of per number = elim (places-are per end number) [
        | inl part ↦ absurd (omega (arith, part, next, least, start))
        | inr whole ↦ whole.0
      ] in
      let then : places_of per (start_of per (length rest)) number ≡ size_of per number = elim (places-are per (start_of per (length rest)) number) [
        | inl part ↦ absurd (omega (arith, part, next, least))
        | inr whole ↦ whole.0
      ] in
      was ∙ sym then

  first-of : (number : ℕ) → number < length rest → IsPageOf size per (start_of per (length rest)) (kind_of now number) number (page_at rest number)
  first-of number inside =
      let more = long in
      let counted = trimmed-counted in
      let kind = sym (shorter.elsewhere number (omega (arith, inside, counted))) in
      let old = are.each number (omega (arith, inside, more)) in
      let old_kind : IsPageOf size per end (kind_of now number) number (page_at pages number) = subst (λ k. IsPageOf size per end k number (page_at pages number)) kind old in
      let old_page : IsPageOf size per end (kind_of now number) number (page_at rest number) =
      subst (λ page. IsPageOf size per end (kind_of now number) number page) (first-page number inside) old_kind in
      record {
        size_is = old_page.size_is;
        next = old_page.next;
        known = subst (λ places. IsOfKind (kind_of now number) places (page_at rest number)) (same-places number inside) old_page.known;
        within = old_page.within;
      }

  pub trimmed-are : ArePages size per (start_of per (length rest)) rest now
  trimmed-are = record {
    known = shorter.known;
    counted = trimmed-counted;
    enough = omega arith;
    few = elim (cases_lt (page_of per (start_of per (length rest))) (length rest)) [
      | inl less ↦ (let before = place-less per some (start_of per (length rest)) (length rest) less in absurd (omega (arith, before)))
      | inr past ↦ omega (arith, past)
    ];
    each = first-of;
  }

  abbrev before : List Spot
  before = spots_to end (spot_of per pages)

  abbrev after : List Spot
  after = spots_to (start_of per (length rest)) (spot_of per rest)

  pub trimmed-spots : (place : ℕ) → get_or after place (free 0) ≡ get_or before place (free 0)
  trimmed-spots place =
      let start = trimmed-start in
      elim (cases_lt place (start_of per (length rest))) [
        | inl less ↦
            get-to (start_of per (length rest)) (spot_of per rest) place (free 0) less
            ∙ ap (λ (page : PageList). spot_in page (rest_of per place)) (sym (first-page (page_of per place) (page-less per some place (length rest) less)))
            ∙ sym (get-to end (spot_of per pages) place (free 0) (omega (arith, less, start)))
        | inr past ↦
            let none = length-to (start_of per (length rest)) (spot_of per rest) in
            get_or_past after place (free 0) (omega (arith, past, none)) ∙ sym (nothing place past)
      ]
    where
      nothing : (place : ℕ) → start_of per (length rest) ≤ place → get_or before place (free 0) ≡ free 0
      nothing place past = elim (cases_lt place end) [
        | inl less ↦
            let more = long in
            let inside = page-in size per end some pages kinds are place less in
            let least : length rest ≤ page_of per place = elim (cases_lt (page_of per place) (length rest)) [
              | inl short ↦ (let ahead = place-less per some place (length rest) short in absurd (omega (arith, ahead, past)))
              | inr most ↦ most
            ] in
            let here : page_of per place ≡ length rest = omega (arith, least, inside, more) in
            get-to end (spot_of per pages) place (free 0) less
            ∙ ap (λ n. spot_in (page_at pages n) (rest_of per place)) here
            ∙ ap (λ (page : PageList). spot_in page (rest_of per place)) last-of.known.0
        | inr behind ↦ (let all = length-to end (spot_of per pages) in get_or_past before place (free 0) (omega (arith, behind, all)))
      ]
