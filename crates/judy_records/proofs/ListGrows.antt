-- One more record in a list of records.
use Rattle.std.proofs.Common.{◌≡◌, ◌≢◌, ℕ, ◌+◌, ◌*◌, ◌<◌, ◌≤◌, ◌⊎◌, List, length, get_or, set, None, Some, inl, inr, refl, sym, ap, subst, ◌∙◌, arith}
use Rattle.std.specs.Global.{Global}
use Rattle.std.specs.declared.vec.Vec.{Vec}
use Rattle.std.proofs.lemmas.Bool.{cases_lt}
use Rattle.std.proofs.lemmas.Nat.{mul-le}
use Rattle.std.proofs.lemmas.List.{get_or_read, set-set, set-get_or}
use Rattle.judy_records.specs.declared.records.Records.TheInside.{Inside}
use Rattle.judy_records.specs.Kinds.{full, roomy, gone, Kinds, kind_of, first_of, IsMoved}
use Rattle.judy_records.specs.Pages.{size_of, start_of, page_of, rest_of, places_of}
use Rattle.judy_records.specs.Spots.{Spot, IsHeld, RecordList, put_at}
use Rattle.judy_records.specs.PageSpots.{PageList, spot_in, empty_page, HasRoom, IsFull}
use Rattle.judy_records.specs.PageSteps.{IsFilled, IsReopened, IsBegun}
use Rattle.judy_records.specs.Inside.{page_at, spots_to, spot_of, next_by, list_of, ArePages, AreRecords}
use Rattle.judy_records.specs.Memory.{HasFree}
use Rattle.judy_records.proofs.PageOf.{per-is, page-most, place-in}
use Rattle.judy_records.proofs.PagesHold.{start-in, places-are, of-kind, some-roomy, end-none}
use Rattle.judy_records.proofs.SpotsTo.{length-to}
use Rattle.judy_records.proofs.PagesChange.{IsFillable, roomy-fillable, put-are, put-spots, moved-twice, gone-empty, gone-size, gone-next, reopened-fillable, reopened-within, reopened-same}
use Rattle.judy_records.proofs.PagesChange.{IsReady, begun-ready, pushed-are, pushed-spots}
use Rattle.judy_records.proofs.ListHolds.{per, some}

pub fillable-room : (size places : ℕ) (page : PageList) → IsFillable size places page → HasRoom page
fillable-room size places page can = elim (cases_lt page.next (length page.spots)) [
  | inl less ↦ inl less
  | inr past ↦
      let less = can.less in
      let most = can.next.within in
      let memory = can.memory in
      let fits = mul-le (length page.spots + 1) (page.size + 1) places (page.size + 1) (omega (arith, less, past)) (omega arith) in
      let sizes = ap (λ n. places * (n + 1)) can.size_is in
      inr (omega (arith, fits, sizes, memory))
]

module _ (list : Inside) (are : AreRecords list) {seen : RecordList} (view_is : list_of list ≡ seen) where
  abbrev pages : List PageList
  pages = list.pages.items

  -- Where a place is free in a page with a record, some page is roomy.
  pub free-roomy : HasFree seen → list.turns.next_roomy ≢ None
  free-roomy has none =
      let all = subst HasFree (sym view_is) has in
      let used = all.used in
      let short = per-is list.size list.shift are.shift_is in
      some-roomy list.size (per list are) list.end (some list are) pages list.turns are.pages all.place used.place all.within all.is_free used.held
      ((λ i. page_of (sym short i) used.place) ∙ used.here ∙ (λ i. page_of (short i) all.place)) none

  -- ---- in a page with a place

  module _ (number : ℕ) (is : Some number ≡ list.turns.next_roomy) where
    roomy-known : (number < length list.turns.kinds) × (kind_of list.turns number ≡ roomy)
    roomy-known = are.pages.known.next_roomy.some number (sym is)

    pub roomy-there : number < length pages
    roomy-there = (let known = roomy-known.0 in let counted = are.pages.counted in omega (arith, known, counted))

    pub roomy-kind : kind_of list.turns number ≡ roomy
    roomy-kind = roomy-known.1

    pub roomy-start : start_of (per list are) number ≤ list.end
    roomy-start = start-in list.size (per list are) list.end (some list are) pages list.turns are.pages number roomy-there

    can : IsFillable list.size (places_of (per list are) list.end number) (page_at pages number)
    can = roomy-fillable list.size (per list are) list.end (some list are) pages list.turns are.pages number roomy-there roomy-kind

    pub roomy-room : HasRoom (page_at pages number)
    roomy-room = fillable-room list.size (places_of (per list are) list.end number) (page_at pages number) can

    pub roomy-size : (page_at pages number).size ≡ list.size
    roomy-size = can.size_is

    pub roomy-next : start_of (per list are) number + (page_at pages number).next ≡ seen.next
    roomy-next =
        ap (λ next. next_by (first_of next list.turns.next_gone) (per list are) list.end pages) is
        ∙ ap (λ (seen : RecordList). seen.next) view_is

    module _ (places : ℕ) (places_is : places ≡ places_of (per list are) list.end number) (new : Vec PageList Global) (turns : Kinds) (spot : Spot) (stands : IsHeld spot)
        (pages_are : new.items ≡ set pages number (page_at new.items number)) (filled : IsFilled (page_at pages number) (page_at new.items number) spot)
        (to_full : IsFull places (page_at new.items number) → IsMoved list.turns turns number full)
        (to_roomy : (IsFull places (page_at new.items number) → ⊥) → IsMoved list.turns turns number roomy) where
      pub roomy-are : AreRecords (record list { pages = new; turns = turns })
      roomy-are = record {
        pages = subst (λ pages. ArePages list.size (per list are) list.end pages turns) (sym pages_are)
            (put-are list.size (per list are) list.end (some list are) pages list.turns are.pages number roomy-there (page_at pages number) (page_at new.items number) (λ at. refl) can
            (are.pages.each number roomy-there).within spot stands filled turns
            (λ is_full. to_full (subst (λ n. IsFull n (page_at new.items number)) (sym places_is) is_full))
            (λ not. to_roomy (λ is_full. not (subst (λ n. IsFull n (page_at new.items number)) places_is is_full))));
        shift_is = are.shift_is;
        size_within = are.size_within;
        most = are.most;
      }

      pub roomy-spots : (list_of (record list { pages = new; turns = turns })).spots ≡ put_at seen.spots seen.next spot
      roomy-spots =
          ap (λ pages. spots_to list.end (spot_of (per list are) pages)) pages_are
          ∙ put-spots list.size (per list are) list.end (some list are) pages list.turns are.pages number roomy-there (page_at pages number) (page_at new.items number) (λ at. refl) can
          (are.pages.each number roomy-there).within spot stands filled
          ∙ (λ i. put_at (ap (λ (seen : RecordList). seen.spots) view_is i) (roomy-next i) spot)

  -- ---- in a page that has gone

  module _ (number : ℕ) (none : list.turns.next_roomy ≡ None) (is : Some number ≡ list.turns.next_gone) where
    gone-known : (number < length list.turns.kinds) × (kind_of list.turns number ≡ gone)
    gone-known = are.pages.known.next_gone.some number (sym is)

    pub gone-there : number < length pages
    gone-there = (let known = gone-known.0 in let counted = are.pages.counted in omega (arith, known, counted))

    pub gone-kind : kind_of list.turns number ≡ gone
    gone-kind = gone-known.1

    pub gone-start : start_of (per list are) number ≤ list.end
    gone-start = start-in list.size (per list are) list.end (some list are) pages list.turns are.pages number gone-there

    pub gone-none : page_at pages number ≡ empty_page (page_at pages number).size
    gone-none = gone-empty list.size (per list are) list.end (some list are) pages list.turns are.pages number gone-there gone-kind

    pub gone-size-is : (page_at pages number).size ≡ list.size
    gone-size-is = gone-size list.size (per list are) list.end (some list are) pages list.turns are.pages number gone-there gone-kind

    pub gone-next-is : start_of (per list are) number ≡ seen.next
    gone-next-is =
        let zero = gone-next list.size (per list are) list.end (some list are) pages list.turns are.pages number gone-there gone-kind in
        let found : start_of (per list are) number + (page_at pages number).next ≡ seen.next =
        (λ i. next_by (first_of (sym none i) (is i)) (per list are) list.end pages) ∙ ap (λ (seen : RecordList). seen.next) view_is in
        omega (arith, zero, found)

    module _ (words : ℕ) (words_is : words ≡ size_of (per list are) number * (list.size + 1)) (first : Vec PageList Global) (middle : Kinds)
        (first_are : first.items ≡ set pages number (page_at first.items number)) (reopened : IsReopened (page_at pages number) (page_at first.items number) words)
        (moved : IsMoved list.turns middle number roomy) where
      can-now : IsFillable list.size (places_of (per list are) list.end number) (page_at first.items number)
      can-now = reopened-fillable list.size (per list are) list.end (some list are) pages list.turns are.pages number gone-there gone-kind (page_at first.items number) words words_is reopened

      pub first-place : start_of (per list are) number + (page_at first.items number).next ≡ seen.next
      first-place = (let zero = reopened.next in let next = gone-next-is in omega (arith, zero, next))

      module _ (places : ℕ) (places_is : places ≡ places_of (per list are) list.end number) (new : Vec PageList Global) (turns : Kinds) (spot : Spot) (stands : IsHeld spot)
          (pages_are : new.items ≡ set first.items number (page_at new.items number)) (filled : IsFilled (page_at first.items number) (page_at new.items number) spot)
          (to_full : IsFull places (page_at new.items number) → IsMoved middle turns number full)
          (to_roomy : (IsFull places (page_at new.items number) → ⊥) → IsMoved middle turns number roomy) where
        all-are : new.items ≡ set pages number (page_at new.items number)
        all-are = pages_are ∙ ap (λ pages. set pages number (page_at new.items number)) first_are ∙ set-set pages number (page_at first.items number) (page_at new.items number)

        same : (at : ℕ) → spot_in (page_at first.items number) at ≡ spot_in (page_at pages number) at
        same = reopened-same list.size (per list are) list.end (some list are) pages list.turns are.pages number gone-there gone-kind (page_at first.items number) words words_is reopened

        within : (page_at first.items number).capacity ≤ size_of (per list are) number * (list.size + 1)
        within = reopened-within list.size (per list are) list.end (some list are) pages list.turns are.pages number gone-there gone-kind (page_at first.items number) words words_is reopened

        pub gone-are : AreRecords (record list { pages = new; turns = turns })
        gone-are = record {
          pages = subst (λ pages. ArePages list.size (per list are) list.end pages turns) (sym all-are)
              (put-are list.size (per list are) list.end (some list are) pages list.turns are.pages number gone-there (page_at first.items number) (page_at new.items number) same can-now
              within spot stands filled turns
              (λ is_full. moved-twice list.turns middle turns number roomy full moved (to_full (subst (λ n. IsFull n (page_at new.items number)) (sym places_is) is_full)))
              (λ not. moved-twice list.turns middle turns number roomy roomy moved (to_roomy (λ is_full. not (subst (λ n. IsFull n (page_at new.items number)) places_is is_full)))));
          shift_is = are.shift_is;
          size_within = are.size_within;
          most = are.most;
        }

        pub gone-spots : (list_of (record list { pages = new; turns = turns })).spots ≡ put_at seen.spots seen.next spot
        gone-spots =
            ap (λ pages. spots_to list.end (spot_of (per list are) pages)) all-are
            ∙ put-spots list.size (per list are) list.end (some list are) pages list.turns are.pages number gone-there (page_at first.items number) (page_at new.items number) same can-now
            within spot stands filled
            ∙ (λ i. put_at (ap (λ (seen : RecordList). seen.spots) view_is i) (first-place i) spot)

  -- ---- at the end

  -- Where no page has a free place and none has gone, the next place is the end.
  pub end-last : list.turns.next_roomy ≡ None → list.turns.next_gone ≡ None → seen.next ≡ length seen.spots
  end-last no_roomy no_gone =
      subst (λ (seen : RecordList). seen.next ≡ length seen.spots) view_is
      ((λ i. next_by (first_of (no_roomy i) (no_gone i)) (per list are) list.end pages) ∙ sym (length-to list.end (spot_of (per list are) pages)))

  module _ (at_end : seen.next ≡ length seen.spots) where
    next-is : (list_of list).next ≡ list.end
    next-is = subst (λ (seen : RecordList). seen.next ≡ length seen.spots) (sym view_is) at_end ∙ length-to list.end (spot_of (per list are) pages)

    pub no_roomy : list.turns.next_roomy ≡ None
    no_roomy = (end-none list.size (per list are) list.end (some list are) pages list.turns are.pages next-is).0

    pub no_gone : list.turns.next_gone ≡ None
    no_gone = (end-none list.size (per list are) list.end (some list are) pages list.turns are.pages next-is).1

    pub end-next : list.end ≡ seen.next
    end-next = sym next-is ∙ ap (λ (seen : RecordList). seen.next) view_is

    pub end-number : page_of (per list are) list.end ≤ length pages
    end-number = page-most (per list are) (some list are) list.end (length pages) are.pages.enough

    module _ (number : ℕ) (number_is : number ≡ page_of (per list are) list.end) (begun : Vec PageList Global) (now : Kinds)
        (is_begun : IsBegun list.size pages begun.items list.turns now number) where
      ready : IsReady list.size (per list are) list.end (some list are) pages list.turns are.pages no_roomy no_gone begun.items now (subst
          (IsBegun list.size pages begun.items list.turns now) number_is is_begun)
      ready = begun-ready list.size (per list are) list.end (some list are) pages list.turns are.pages no_roomy no_gone begun.items now (subst
          (IsBegun list.size pages begun.items list.turns now) number_is is_begun)

      pub last-there : number < length begun.items
      last-there = (let there = ready.there in omega (arith, there, number_is))

      -- The last page, as it was read.
      module _ (page : PageList) (read : page ≡ get_or begun.items number page) where
        pub last-read : page ≡ page_at begun.items number
        last-read = get_or_read begun.items number page last-there read (empty_page 0)

        last-is : page ≡ page_at begun.items (page_of (per list are) list.end)
        last-is = last-read ∙ ap (page_at begun.items) number_is

        pub last-size : page.size ≡ list.size
        last-size = ap (λ (page : PageList). page.size) last-is ∙ (ready.pages_are.each (page_of (per list are) list.end) ready.there).size_is

        last-long : length page.spots ≡ rest_of (per list are) list.end
        last-long =
            ap (λ (page : PageList). length page.spots) last-is
            ∙ (of-kind list.size (per list are) list.end (some list are) begun.items now ready.pages_are (page_of (per list are) list.end) ready.there full
            (ready.fulls (page_of (per list are) list.end) ready.there)).known.0
            ∙ (elim (places-are (per list are) list.end (page_of (per list are) list.end)) [
              | inl part ↦ (let own = place-in (per list are) (some list are) list.end in omega (arith, part, own))
              | inr whole ↦ (let own = place-in (per list are) (some list are) list.end in absurd (omega (arith, whole, own)))
            ])

        -- It has no more memory than its places take.
        pub last-within : (capacity words : ℕ) → (capacity ≡ page.capacity) ⊎ (capacity ≡ length page.spots * (page.size + 1) + words) →
            rest_of (per list are) list.end * (list.size + 1) + words ≤ size_of (per list are) (page_of (per list are) list.end) * (list.size + 1) →
            capacity ≤ size_of (per list are) number * (list.size + 1)
        last-within capacity words is most =
            let sizes = ap (λ n. size_of (per list are) n * (list.size + 1)) number_is in
            elim is [
              | inl same ↦
                  let was = ap (λ (page : PageList). page.capacity) last-is in
                  let within = (ready.pages_are.each (page_of (per list are) list.end) ready.there).within in
                  omega (arith, same, was, within, sizes)
              | inr grown ↦ (let parts : length page.spots * (page.size + 1) ≡ rest_of (per list are) list.end * (list.size + 1) = (λ i. last-long i * (last-size i + 1)) in omega
                  (arith, grown, parts, most, sizes))
            ]

      -- Only its pages are others.
      module _ (new : Vec PageList Global) (before : PageList) (new_are : new.items ≡ set begun.items number before) (size_is : before.size ≡ (page_at begun.items number).size)
          (spots_are : before.spots ≡ (page_at begun.items number).spots) (next_is : before.next ≡ (page_at begun.items number).next)
          (capacity : before.capacity ≡ (page_at begun.items number).capacity) where
        page-same : before ≡ page_at begun.items number
        page-same = λ i. record { size = size_is i; spots = spots_are i; next = next_is i; capacity = capacity i }

        items-same : new.items ≡ begun.items
        items-same = new_are ∙ ap (set begun.items number) page-same ∙ set-get_or begun.items number (empty_page 0)

        pub begun-are : AreRecords (record list { pages = new; turns = now })
        begun-are = record {
          pages = subst (λ pages. ArePages list.size (per list are) list.end pages now) (sym items-same) ready.pages_are;
          shift_is = are.shift_is;
          size_within = are.size_within;
          most = are.most;
        }

        pub begun-spots : (list_of (record list { pages = new; turns = now })).spots ≡ seen.spots
        begun-spots = ap (λ pages. spots_to list.end (spot_of (per list are) pages)) items-same ∙ ready.spots ∙ ap (λ (seen : RecordList). seen.spots) view_is

        pub begun-next : (list_of (record list { pages = new; turns = now })).next ≡ seen.next
        begun-next = (λ i. next_by (first_of (ready.none_roomy i) (ready.none_gone i)) (per list are) list.end new.items) ∙ end-next

      -- A record came to the last one.
      module _ (new : Vec PageList Global) (before after : PageList) (new_are : new.items ≡ set begun.items number after) (size_is : before.size ≡ (page_at begun.items number).size)
          (spots_are : before.spots ≡ (page_at begun.items number).spots) (next_is : before.next ≡ (page_at begun.items number).next)
          (within : before.capacity ≤ size_of (per list are) number * (list.size + 1)) (spot : Spot) (stands : IsHeld spot) (filled : IsFilled before after spot)
          (few : list.end < 288230376151711744) where
        there : page_of (per list are) list.end < length begun.items
        there = ready.there

        page-is : page_at begun.items number ≡ page_at begun.items (page_of (per list are) list.end)
        page-is = ap (page_at begun.items) number_is

        before-size : before.size ≡ list.size
        before-size = size_is ∙ ap (λ (page : PageList). page.size) page-is ∙ (ready.pages_are.each (page_of (per list are) list.end) there).size_is

        after-items : new.items ≡ set begun.items (page_of (per list are) list.end) after
        after-items = new_are ∙ ap (λ n. set begun.items n after) number_is

        pub pushed-records : AreRecords (record list { pages = new; turns = now; end = list.end + 1 })
        pushed-records = record {
          pages = subst (λ pages. ArePages list.size (per list are) (list.end + 1) pages now) (sym after-items)
              (pushed-are list.size (per list are) list.end (some list are) begun.items now ready.pages_are ready.fulls there before after before-size
              (spots_are ∙ ap (λ (page : PageList). page.spots) page-is) (next_is ∙ ap (λ (page : PageList). page.next) page-is)
              (subst (λ n. before.capacity ≤ size_of (per list are) n * (list.size + 1)) number_is within) spot stands filled);
          shift_is = are.shift_is;
          size_within = are.size_within;
          most = omega (arith, few);
        }

        pub pushed-list : (list_of (record list { pages = new; turns = now; end = list.end + 1 })).spots ≡ put_at seen.spots seen.next spot
        pushed-list =
            ap (λ pages. spots_to (list.end + 1) (spot_of (per list are) pages)) after-items
            ∙ pushed-spots list.size (per list are) list.end (some list are) begun.items now ready.pages_are ready.fulls there before after before-size
            (spots_are ∙ ap (λ (page : PageList). page.spots) page-is) (next_is ∙ ap (λ (page : PageList). page.next) page-is)
            (subst (λ n. before.capacity ≤ size_of (per list are) n * (list.size + 1)) number_is within) spot stands filled
            ∙ (λ i. put_at ((ready.spots ∙ ap (λ (seen : RecordList). seen.spots) view_is) i) (end-next i) spot)
