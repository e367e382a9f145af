-- What a list of records holds by its pages.
use Rattle.std.proofs.Common.{◌≡◌, ◌≢◌, ℕ, ◌+◌, ◌-◌, ◌*◌, ◌<◌, ◌≤◌, ◌⊎◌, if◌then◌else◌, List, length, get_or, set, map, Option, None, Some, inl, inr, refl, sym, ap, subst, ◌∙◌}
use Rattle.std.proofs.Common.{arith, lt-ltb, le-ltb}
use Rattle.std.proofs.lemmas.Bool.{cases_lt, cases_eq}
use Rattle.std.proofs.lemmas.Option.{none-some, same_Some}
use Rattle.std.proofs.lemmas.List.{length-set, length-map, get_or-map, get_or_past, get_or-set_same, get_or-set_other}
use Rattle.judy_records.specs.Kinds.{Kind, full, roomy, gone, Kinds, kind_of, first_of, IsMoved}
use Rattle.judy_records.specs.Pages.{size_of, start_of, page_of, rest_of, places_of, IsAt}
use Rattle.judy_records.specs.Spots.{Spot, free, IsHeld, IsNext}
use Rattle.judy_records.specs.PageSpots.{PageList, spot_in, empty_page}
use Rattle.judy_records.specs.Inside.{page_at, spots_to, spot_of, next_by, capacity_of, IsPageOf, ArePages}
use Rattle.judy_records.proofs.PageOf.{place-in, start-least, page-less, only-at}
use Rattle.judy_records.proofs.SpotsTo.{length-to, get-to, set-to, held-to}

-- How many places of a page a list has.
pub places-are : (per end number : ℕ) → ((places_of per end number ≡ end - start_of per number) × (end - start_of per number < size_of per number)) ⊎
    ((places_of per end number ≡ size_of per number) × (size_of per number ≤ end - start_of per number))
places-are per end number = elim (cases_lt (end - start_of per number) (size_of per number)) [
  | inl less ↦
      inl (ap (λ b. if b then end - start_of per number else size_of per number) (lt-ltb (end - start_of per number) (size_of per number) less), less)
  | inr past ↦
      inr (ap (λ b. if b then end - start_of per number else size_of per number) (le-ltb (end - start_of per number) (size_of per number) past), past)
]

none-held : IsHeld (free 0) → ⊥
none-held is = is

module _ (size per end : ℕ) (some : 0 < per) (pages : List PageList) (kinds : Kinds) (are : ArePages size per end pages kinds) where
  abbrev spots : List Spot
  spots = spots_to end (spot_of per pages)

  -- ---- places and their pages

  pub start-in : (number : ℕ) → number < length pages → start_of per number ≤ end
  start-in number inside =
      let few = are.few in
      let least = start-least per some number (page_of per end) (omega (arith, inside, few)) in
      let own = place-in per some end in
      omega (arith, least, own)

  pub page-in : (place : ℕ) → place < end → page_of per place < length pages
  page-in place less = (let enough = are.enough in page-less per some place (length pages) (omega (arith, less, enough)))

  pub rest-in : (place : ℕ) → place < end → rest_of per place < places_of per end (page_of per place)
  rest-in place less =
      let own = place-in per some place in
      elim (places-are per end (page_of per place)) [
        | inl part ↦ omega (arith, own, less, part)
        | inr whole ↦ omega (arith, own, whole)
      ]

  pub place-at : (number rest : ℕ) → number < length pages → rest < places_of per end number → IsAt per (start_of per number + rest) number rest × (start_of per number + rest < end)
  place-at number rest inside less =
      let start = start-in number inside in
      elim (places-are per end number) [
        | inl part ↦ (only-at per some (start_of per number + rest) number rest refl (omega (arith, less, part)), omega (arith, less, part, start))
        | inr whole ↦ (only-at per some (start_of per number + rest) number rest refl (omega (arith, less, whole)), omega (arith, less, whole, start))
      ]

  pub spot-at : (number rest : ℕ) → number < length pages → rest < places_of per end number → get_or spots (start_of per number + rest) (free 0) ≡ spot_in (page_at pages number) rest
  spot-at number rest inside less =
      let at = place-at number rest inside less in
      get-to end (spot_of per pages) (start_of per number + rest) (free 0) at.1
      ∙ (λ i. spot_in (page_at pages (sym at.0.page_is i)) (sym at.0.rest_is i))

  -- A record of the list is one of its page.
  module _ (place : ℕ) (is : IsHeld (get_or spots place (free 0))) where
    pub held-less : place < end
    held-less = held-to end (spot_of per pages) place is

    pub held-spot : get_or spots place (free 0) ≡ spot_in (page_at pages (page_of per place)) (rest_of per place)
    held-spot = get-to end (spot_of per pages) place (free 0) held-less

    pub held-page : page_of per place < length pages
    held-page = page-in place held-less

  -- ---- pages by their kinds

  abbrev page : ℕ → PageList
  page = page_at pages

  pub of-kind : (number : ℕ) → number < length pages → (kind : Kind) → kind_of kinds number ≡ kind → IsPageOf size per end kind number (page number)
  of-kind number inside kind is = subst (λ k. IsPageOf size per end k number (page number)) is (are.each number inside)

  -- A page with a record isn't gone.
  pub not-gone : (number rest : ℕ) → number < length pages → IsHeld (spot_in (page number) rest) → kind_of kinds number ≢ gone
  not-gone number rest inside is e = none-held (subst IsHeld (ap (λ (page : PageList). spot_in page rest) (of-kind number inside gone e).known.0) is)

  pub full-held : (number rest : ℕ) → number < length pages → kind_of kinds number ≡ full → rest < places_of per end number → IsHeld (spot_in (page number) rest)
  full-held number rest inside is less =
      let of = of-kind number inside full is in
      of.next.last (of.known.1 ∙ sym of.known.0) rest (let long = of.known.0 in omega (arith, less, long))

  pub kind-cases : (number : ℕ) → (kind_of kinds number ≡ full) ⊎ ((kind_of kinds number ≡ roomy) ⊎ (kind_of kinds number ≡ gone))
  kind-cases number = elim (kind_of kinds number) as (λ k. (k ≡ full) ⊎ ((k ≡ roomy) ⊎ (k ≡ gone))) [
    | full ↦ inl refl
    | roomy ↦ inr (inl refl)
    | gone ↦ inr (inr refl)
  ]

  -- Where none is roomy or gone, all are full.
  pub all-full : kinds.next_roomy ≡ None → kinds.next_gone ≡ None → (number : ℕ) → number < length pages → kind_of kinds number ≡ full
  all-full no_roomy no_gone number inside =
      let counted = are.counted in
      elim (kind-cases number) [
        | inl is ↦ is
        | inr other ↦ elim other [
          | inl is ↦ absurd (are.known.next_roomy.none no_roomy number (omega (arith, inside, counted)) is)
          | inr is ↦ absurd (are.known.next_gone.none no_gone number (omega (arith, inside, counted)) is)
        ]
      ]

  -- ---- the next place

  next-page : (number : ℕ) → number < length pages → (page number).next < places_of per end number → (IsHeld (spot_in (page number) (page number).next) → ⊥) →
      IsNext spots (start_of per number + (page number).next)
  next-page number inside less not =
      let at = place-at number (page number).next inside less in
      let long = length-to end (spot_of per pages) in record {
        within = (let before = at.1 in omega (arith, before, long));
        is_free = λ is. not (subst IsHeld (spot-at number (page number).next inside less) is);
        last = λ e. (let before = at.1 in absurd (omega (arith, before, long, e)));
      }

  -- The next place of a page that is taken next is before the end.
  roomy-place : (number : ℕ) → kinds.next_roomy ≡ Some number → (number < length pages) × ((page number).next < places_of per end number)
  roomy-place number is =
      let known = are.known.next_roomy.some number is in
      let counted = are.counted in
      let inside : number < length pages = omega (arith, known.0, counted) in
      (inside, (of-kind number inside roomy known.1).known.1)

  gone-place : (number : ℕ) → kinds.next_gone ≡ Some number → (number < length pages) × ((page number).next < places_of per end number)
  gone-place number is =
      let known = are.known.next_gone.some number is in
      let counted = are.counted in
      let inside : number < length pages = omega (arith, known.0, counted) in
      let of = of-kind number inside gone known.1 in
      let zero = ap (λ (page : PageList). page.next) of.known.0 in
      (inside, let some = of.known.1 in omega (arith, zero, some))

  next-first : (number : ℕ) → (number < length pages) × ((page number).next < places_of per end number) → IsNext spots (start_of per number + (page number).next)
  next-first number at = next-page number at.0 at.1 (are.each number at.0).next.is_free

  next-end : kinds.next_roomy ≡ None → kinds.next_gone ≡ None → IsNext spots end
  next-end no_roomy no_gone = (let long = length-to end (spot_of per pages) in record {
    within = omega (arith, long);
    is_free = λ is. none-held (subst IsHeld (get_or_past spots end (free 0) (omega (arith, long))) is);
    last = λ _ place inside.
        let less : place < end = omega (arith, inside, long) in
        let there = page-in place less in
        subst IsHeld (sym (get-to end (spot_of per pages) place (free 0) less))
        (full-held (page_of per place) (rest_of per place) there (all-full no_roomy no_gone (page_of per place) there) (rest-in place less));
  })

  pub pages-next : IsNext spots (next_by (first_of kinds.next_roomy kinds.next_gone) per end pages)
  pages-next = by kinds.next_roomy kinds.next_gone refl refl
    where
      by : (one two : Option ℕ) → kinds.next_roomy ≡ one → kinds.next_gone ≡ two → IsNext spots (next_by (first_of one two) per end pages)
      by (Some number) two is also = next-first number (roomy-place number is)
      by None (Some number) is also = next-first number (gone-place number also)
      by None None is also = next-end is also

  -- Where the next place is the end, none is roomy or gone.
  pub end-none : next_by (first_of kinds.next_roomy kinds.next_gone) per end pages ≡ end → (kinds.next_roomy ≡ None) × (kinds.next_gone ≡ None)
  end-none = by kinds.next_roomy kinds.next_gone refl refl
    where
      past : (number : ℕ) → (number < length pages) × ((page number).next < places_of per end number) → start_of per number + (page number).next ≡ end → ⊥
      past number at e = (let before = (place-at number (page number).next at.0 at.1).1 in omega (arith, before, e))

      by : (one two : Option ℕ) → kinds.next_roomy ≡ one → kinds.next_gone ≡ two → next_by (first_of one two) per end pages ≡ end → (one ≡ None) × (two ≡ None)
      by (Some number) two is also e = absurd (past number (roomy-place number is) e)
      by None (Some number) is also e = absurd (past number (gone-place number also) e)
      by None None is also e = (refl, refl)

  -- ---- memory

  -- A page with memory has a record.
  pub page-used : (number : ℕ) → 0 < get_or (map capacity_of pages) number 0 → (place : ℕ) × IsHeld (get_or spots place (free 0)) × (page_of per place ≡ number)
  page-used number memory = elim (cases_lt number (length pages)) [
    | inr past ↦
        let long = length-map pages capacity_of in
        let none = get_or_past (map capacity_of pages) number 0 (omega (arith, past, long)) in
        absurd (omega (arith, memory, none))
    | inl inside ↦
        let is = get_or-map capacity_of pages number (empty_page 0) 0 inside in
        let has : 0 < (page number).capacity = omega (arith, memory, is) in
        let used : (rest : ℕ) → rest < places_of per end number → IsHeld (spot_in (page number) rest) → (place : ℕ) × IsHeld (get_or spots place (free 0)) × (page_of per place ≡ number) =
        (λ rest less stands. (start_of per number + rest, subst IsHeld (sym (spot-at number rest inside less)) stands, sym (place-at number rest inside less).0.page_is)) in
        elim (kind-cases number) [
          | inl is_full ↦
              let some_place = (of-kind number inside full is_full).known.2 has in
              used 0 some_place (full-held number 0 inside is_full some_place)
          | inr other ↦ elim other [
            | inl is_roomy ↦
                let of = of-kind number inside roomy is_roomy in
                let one = of.known.2 in
                let most = of.known.0 in
                used one.0 (let within = spot-less (page number).spots one.0 one.1 in omega (arith, within, most)) one.1
            | inr is_gone ↦ (let none = ap (λ (page : PageList). page.capacity) (of-kind number inside gone is_gone).known.0 in absurd (omega (arith, has, none)))
          ]
        ]
  ]
    where
      spot-less : (all : List Spot) (at : ℕ) → IsHeld (get_or all at (free 0)) → at < length all
      spot-less all at is = elim (cases_lt at (length all)) [
        | inl less ↦ less
        | inr past ↦ absurd (none-held (subst IsHeld (get_or_past all at (free 0) past) is))
      ]

  pub page-within : (number : ℕ) → get_or (map capacity_of pages) number 0 ≤ size_of per number * (size + 1)
  page-within number = elim (cases_lt number (length pages)) [
    | inr past ↦
        let long = length-map pages capacity_of in
        let none = get_or_past (map capacity_of pages) number 0 (omega (arith, past, long)) in
        omega (arith, none)
    | inl inside ↦
        let is = get_or-map capacity_of pages number (empty_page 0) 0 inside in
        let within = (are.each number inside).within in
        omega (arith, is, within)
  ]

  -- Where a place is free in a page with a record, some page is roomy.
  pub some-roomy : (place other : ℕ) → place < length spots → (IsHeld (get_or spots place (free 0)) → ⊥) → IsHeld (get_or spots other (free 0)) → page_of per other ≡ page_of per place →
      kinds.next_roomy ≢ None
  some-roomy place other inside not is same none =
      let long = length-to end (spot_of per pages) in
      let less : place < end = omega (arith, inside, long) in
      let number = page_of per place in
      let there = page-in place less in
      let counted = are.counted in
      elim (kind-cases number) [
        | inl is_full ↦
            not (subst IsHeld (sym (get-to end (spot_of per pages) place (free 0) less)) (full-held number (rest_of per place) there is_full (rest-in place less)))
        | inr off ↦ elim off [
          | inl is_roomy ↦ are.known.next_roomy.none none number (omega (arith, there, counted)) is_roomy
          | inr is_gone ↦
              not-gone number (rest_of per other) there (subst IsHeld (held-spot other is ∙ ap (λ n. spot_in (page_at pages n) (rest_of per other)) same) is) is_gone
        ]
      ]

  -- ---- another page in the place of one

  module _ (number : ℕ) (inside : number < length pages) (new : PageList) where
    set-here : page_at (set pages number new) number ≡ new
    set-here = get_or-set_same pages number new (empty_page 0) inside

    set-other : (other : ℕ) → other ≢ number → page_at (set pages number new) other ≡ page other
    set-other other apart = get_or-set_other pages number other new (empty_page 0) apart

    pub pages-set : (kind : Kind) (now : Kinds) → IsMoved kinds now number kind → IsPageOf size per end kind number new → ArePages size per end (set pages number new) now
    pages-set kind now moved of =
        let long = length-set pages number new in
        let counted = are.counted in
        let kept = moved.long in record {
          known = moved.known;
          counted = omega (arith, long, counted, kept);
          enough = subst (λ n. end ≤ start_of per n) (sym long) are.enough;
          few = (let few = are.few in omega (arith, few, long));
          each = λ other within. elim (cases_eq other number) [
            | inl same ↦
                subst (λ n. IsPageOf size per end (kind_of now n) n (page_at (set pages number new) n)) (sym same)
                (subst (λ page. IsPageOf size per end (kind_of now number) number page) (sym set-here) (subst (λ k. IsPageOf size per end k number new) (sym moved.here) of))
            | inr apart ↦
                subst (λ page. IsPageOf size per end (kind_of now other) other page) (sym (set-other other apart))
                (subst (λ k. IsPageOf size per end k other (page other)) (sym (moved.elsewhere other apart)) (are.each other (omega (arith, within, long))))
          ];
        }

    pub spots-set : (rest : ℕ) → rest < places_of per end number → (spot : Spot) → spot_in new rest ≡ spot → ((other : ℕ) → other ≢ rest → spot_in new other ≡ spot_in (page number) other) →
        spots_to end (spot_of per (set pages number new)) ≡ set spots (start_of per number + rest) spot
    spots-set rest less spot here elsewhere =
        let at = place-at number rest inside less in
        set-to end (spot_of per pages) (spot_of per (set pages number new)) (start_of per number + rest) spot at.1
        ((λ i. spot_in (page_at (set pages number new) (sym at.0.page_is i)) (sym at.0.rest_is i)) ∙ ap (λ (page : PageList). spot_in page rest) set-here ∙ here)
        (λ other within apart. elim (cases_eq (page_of per other) number) [
          | inl same ↦
              let own = place-in per some other in
              let starts = ap (start_of per) same in
              ap (λ n. spot_in (page_at (set pages number new) n) (rest_of per other)) same
              ∙ ap (λ (page : PageList). spot_in page (rest_of per other)) set-here
              ∙ elsewhere (rest_of per other) (λ e. apart (omega (arith, own, starts, e)))
              ∙ ap (λ n. spot_in (page n) (rest_of per other)) (sym same)
          | inr off ↦ ap (λ (page : PageList). spot_in page (rest_of per other)) (set-other (page_of per other) off)
        ])

-- The page of the next place is there.
pub first-in : (size per end : ℕ) (pages : List PageList) (kinds : Kinds) → ArePages size per end pages kinds → (number : ℕ) → first_of kinds.next_roomy kinds.next_gone ≡ Some number →
    number < length pages
first-in size per end pages kinds are number is = by kinds.next_roomy kinds.next_gone refl refl is
  where
    by : (one two : Option ℕ) → kinds.next_roomy ≡ one → kinds.next_gone ≡ two → first_of one two ≡ Some number → number < length pages
    by (Some other) two first second found =
        let same = same_Some other number found in
        let inside = (are.known.next_roomy.some other first).0 in
        let counted = are.counted in
        omega (arith, same, inside, counted)
    by None (Some other) first second found =
        let same = same_Some other number found in
        let inside = (are.known.next_gone.some other second).0 in
        let counted = are.counted in
        omega (arith, same, inside, counted)
    by None None first second found = absurd (none-some number found)

-- Where all pages have gone, nothing stands.
pub all-free : (size per end : ℕ) (some : 0 < per) (pages : List PageList) (kinds : Kinds) (are : ArePages size per end pages kinds) → ((number : ℕ) → number < length kinds.kinds →
    kind_of kinds number ≡ gone) →
    (place : ℕ) → get_or (spots_to end (spot_of per pages)) place (free 0) ≡ free 0
all-free size per end some pages kinds are all place = elim (cases_lt place end) [
  | inl less ↦
      let there = page-in size per end some pages kinds are place less in
      let counted = are.counted in
      get-to end (spot_of per pages) place (free 0) less
      ∙ ap (λ (page : PageList). spot_in page (rest_of per place)) (of-kind size per end some pages kinds are (page_of per place) there gone (all (page_of per place) (omega
      (arith, there, counted)))).known.0
  | inr past ↦ (let long = length-to end (spot_of per pages) in get_or_past (spots_to end (spot_of per pages)) place (free 0) (omega (arith, past, long)))
]
