-- What a record that comes or goes makes of the pages of a list.
use Rattle.std.proofs.Common.{◌≡◌, ◌≢◌, ℕ, suc, ◌+◌, ◌-◌, ◌*◌, ◌<◌, ◌≤◌, ◌⊎◌, List, [], ◌∷◌, ◌++◌, length, get_or, set, Option, None, Some, inl, inr, refl, sym, ap, subst, ◌∙◌, arith, add-one}
use Rattle.std.proofs.lemmas.Bool.{cases_lt, cases_eq}
use Rattle.std.proofs.lemmas.Nat.{mul-le}
use Rattle.std.proofs.lemmas.List.{length-set, length_push, get_or_append_left, get_or_push, get_or_past, get_or-set_same, get_or-set_other}
use Rattle.judy_records.specs.Kinds.{Kind, full, roomy, gone, Kinds, kind_of, IsNextOf, AreKnown, IsMoved, IsLonger}
use Rattle.judy_records.specs.Pages.{size_of, start_of, page_of, rest_of, places_of}
use Rattle.judy_records.specs.Spots.{Spot, free, held, IsHeld, IsNext, put_at}
use Rattle.judy_records.specs.PageSpots.{PageList, spot_in, empty_page, IsFull}
use Rattle.judy_records.specs.PageSteps.{IsFilled, IsReopened, IsBegun, IsWithout, IsEmptied, IsTaken}
use Rattle.judy_records.specs.Inside.{page_at, spots_to, spot_of, IsPageOf, ArePages}
use Rattle.judy_records.proofs.PageOf.{place-in, start-next, start-least, size-some, page-most, page-least, place-less}
use Rattle.judy_records.proofs.SpotsTo.{length-to, same-to, put-set, put-end, put-here, put-other, put-long, put-longer}
use Rattle.judy_records.proofs.PagesHold.{places-are, start-in, page-in, place-at, of-kind, not-gone, kind-cases, all-full, pages-set, spots-set}
use Rattle.judy_records.proofs.FreeLemmas.{held-inside}

-- A page moved twice was moved once.
pub moved-twice : (before middle after : Kinds) (number : ℕ) (one two : Kind) → IsMoved before middle number one → IsMoved middle after number two → IsMoved before after number two
moved-twice before middle after number one two first second = record {
  known = second.known;
  long = second.long ∙ first.long;
  here = second.here;
  elsewhere = λ other apart. second.elsewhere other apart ∙ first.elsewhere other apart;
}

-- A page that is of a kind is moved to it where nothing changes.
pub moved-none : (kinds : Kinds) (number : ℕ) (kind : Kind) → AreKnown kinds → kind_of kinds number ≡ kind → IsMoved kinds kinds number kind
moved-none kinds number kind known is = record { known = known; long = refl; here = is; elsewhere = λ other apart. refl }

pub empty-next : IsNext [] 0
empty-next = record { within = omega arith; is_free = λ is. is; last = λ _ place inside. absurd (omega (arith, inside)) }

-- A page that takes one more record, with memory for all its places.
pub record IsFillable (size places : ℕ) (page : PageList) : Type 0 where
  pub size_is : page.size ≡ size
  pub long : length page.spots ≤ places
  pub less : page.next < places
  pub next : IsNext page.spots page.next
  pub memory : places * (size + 1) ≤ page.capacity

module _ (size per end : ℕ) (some : 0 < per) (pages : List PageList) (kinds : Kinds) (are : ArePages size per end pages kinds) (number : ℕ) (inside : number < length pages) where
  abbrev places : ℕ
  places = places_of per end number

  pub roomy-fillable : kind_of kinds number ≡ roomy → IsFillable size places (page_at pages number)
  roomy-fillable is =
      let of = of-kind size per end some pages kinds are number inside roomy is in
      let sizes = ap (λ n. places * (n + 1)) of.size_is in
      let memory = of.known.3 in
      record { size_is = of.size_is; long = of.known.0; less = of.known.1; next = of.next; memory = omega (arith, sizes, memory) }

  -- ---- a record that comes to a page with a place

  module _ (before after : PageList) (same : (at : ℕ) → spot_in before at ≡ spot_in (page_at pages number) at) (can : IsFillable size places before)
      (within : before.capacity ≤ size_of per number * (size + 1)) (spot : Spot) (stands : IsHeld spot) (filled : IsFilled before after spot) where
    grown : length after.spots ≤ places
    grown =
        let is = ap length filled.spots in
        let long = can.long in
        let less = can.less in
        let most = can.next.within in
        elim (cases_lt before.next (length before.spots)) [
          | inl before_end ↦ (let kept = put-long before.spots before.next spot before_end in omega (arith, is, long, kept))
          | inr past ↦
              let at_end : before.next ≡ length before.spots = omega (arith, most, past) in
              let more = put-longer before.spots before.next spot at_end in
              omega (arith, is, more, at_end, less)
        ]

    here : spot_in after before.next ≡ spot
    here = ap (λ spots. get_or spots before.next (free 0)) filled.spots ∙ put-here before.spots before.next spot can.next.within

    full-of : IsFull places after → IsPageOf size per end full number after
    full-of is = record {
      size_is = filled.size_is ∙ can.size_is;
      next = filled.next;
      known = (is.0, is.1, λ _. (let less = can.less in omega (arith, less)));
      within = (let capacity = filled.capacity in omega (arith, capacity, within));
    }

    roomy-of : (IsFull places after → ⊥) → IsPageOf size per end roomy number after
    roomy-of not =
        let long = grown in
        let most = filled.next.within in
        let sizes = ap (λ n. places * (n + 1)) (filled.size_is ∙ can.size_is) in
        let memory = can.memory in
        let capacity = filled.capacity in
        record {
          size_is = filled.size_is ∙ can.size_is;
          next = filled.next;
          known = (
            long,
            elim (cases_lt after.next places) [
              | inl less ↦ less
              | inr past ↦ absurd (not (omega (arith, long, most, past), omega (arith, long, most, past)))
            ],
            (before.next, subst IsHeld (sym here) stands),
            omega (arith, sizes, memory, capacity),
          );
          within = omega (arith, capacity, within);
        }

    pub put-are : (now : Kinds) → (IsFull places after → IsMoved kinds now number full) → ((IsFull places after → ⊥) → IsMoved kinds now number roomy) →
        ArePages size per end (set pages number after) now
    put-are now to_full to_roomy =
        let roomy_now = λ (not : IsFull places after → ⊥). pages-set size per end some pages kinds are number inside after roomy now (to_roomy not) (roomy-of not) in
        elim (cases_eq (length after.spots) places) [
          | inr apart ↦ roomy_now (λ is. apart is.0)
          | inl long ↦ elim (cases_eq after.next places) [
            | inr apart ↦ roomy_now (λ is. apart is.1)
            | inl next ↦ pages-set size per end some pages kinds are number inside after full now (to_full (long, next)) (full-of (long, next))
          ]
        ]

    pub put-spots : spots_to end (spot_of per (set pages number after)) ≡ put_at (spots_to end (spot_of per pages)) (start_of per number + before.next) spot
    put-spots =
        let at = place-at size per end some pages kinds are number before.next inside can.less in
        let less = at.1 in
        let long = length-to end (spot_of per pages) in
        spots-set size per end some pages kinds are number inside after before.next can.less spot here
        (λ other apart. ap (λ spots. get_or spots other (free 0)) filled.spots ∙ put-other before.spots before.next spot can.next.within other apart ∙ same other)
        ∙ sym (put-set (spots_to end (spot_of per pages)) (start_of per number + before.next) spot (omega (arith, less, long)))

  -- A page that has gone and has got memory for its places.
  module _ (is_gone : kind_of kinds number ≡ gone) where
    gone-of : IsPageOf size per end gone number (page_at pages number)
    gone-of = of-kind size per end some pages kinds are number inside gone is_gone

    pub gone-empty : page_at pages number ≡ empty_page (page_at pages number).size
    gone-empty = gone-of.known.0

    pub gone-size : (page_at pages number).size ≡ size
    gone-size = gone-of.size_is

    pub gone-some : 0 < places
    gone-some = gone-of.known.1

    pub gone-next : (page_at pages number).next ≡ 0
    gone-next = ap (λ (page : PageList). page.next) gone-empty

    module _ (page : PageList) (words : ℕ) (is : words ≡ size_of per number * (size + 1)) (reopened : IsReopened (page_at pages number) page words) where
      pub reopened-fillable : IsFillable size places page
      reopened-fillable =
          let next = reopened.next in
          let positive = gone-some in
          let capacity = reopened.capacity in
          record {
            size_is = reopened.size_is ∙ gone-size;
            long = (let none = ap length reopened.spots in omega (arith, none));
            less = omega (arith, next, positive);
            next = subst (λ n. IsNext page.spots n) (sym next) (subst (λ spots. IsNext spots 0) (sym reopened.spots) empty-next);
            memory =
                let most = places-least in
                let least = mul-le places (size + 1) (size_of per number) (size + 1) most (omega arith) in
                omega (arith, least, capacity, is);
          }
        where
          places-least : places ≤ size_of per number
          places-least = elim (places-are per end number) [
            | inl part ↦ omega (arith, part)
            | inr whole ↦ omega (arith, whole)
          ]

      pub reopened-within : page.capacity ≤ size_of per number * (size + 1)
      reopened-within = (let capacity = reopened.capacity in omega (arith, capacity, is))

      pub reopened-same : (at : ℕ) → spot_in page at ≡ spot_in (page_at pages number) at
      reopened-same at = ap (λ spots. get_or spots at (free 0)) reopened.spots ∙ sym (ap (λ (page : PageList). spot_in page at) gone-empty)

  -- ---- a record that goes

  module _ (rest : ℕ) (less : rest < places) (stands : IsHeld (spot_in (page_at pages number) rest)) where
    pub full-kind : IsFull places (page_at pages number) → kind_of kinds number ≡ full
    full-kind is = elim (kind-cases size per end some pages kinds are number) [
      | inl is_full ↦ is_full
      | inr other ↦ elim other [
        | inl is_roomy ↦ (let next = (of-kind size per end some pages kinds are number inside roomy is_roomy).known.1 in let end_next = is.1 in absurd (omega (arith, next, end_next)))
        | inr is_gone ↦ absurd (not-gone size per end some pages kinds are number rest inside stands is_gone)
      ]
    ]

    pub roomy-kind : (IsFull places (page_at pages number) → ⊥) → kind_of kinds number ≡ roomy
    roomy-kind not = elim (kind-cases size per end some pages kinds are number) [
      | inl is_full ↦ (let known = (of-kind size per end some pages kinds are number inside full is_full).known in absurd (not (known.0, known.1)))
      | inr other ↦ elim other [
        | inl is_roomy ↦ is_roomy
        | inr is_gone ↦ absurd (not-gone size per end some pages kinds are number rest inside stands is_gone)
      ]
    ]

    module _ (after : PageList) (now : Kinds) (memory : length (page_at pages number).spots * ((page_at pages number).size + 1) ≤ (page_at pages number).capacity)
        (taken : IsTaken (page_at pages number) after kinds now number rest) where
      old : IsPageOf size per end (kind_of kinds number) number (page_at pages number)
      old = are.each number inside

      has-memory : places * ((page_at pages number).size + 1) ≤ (page_at pages number).capacity
      has-memory = elim (kind-cases size per end some pages kinds are number) [
        | inl is_full ↦
            let long = (of-kind size per end some pages kinds are number inside full is_full).known.0 in
            let same = ap (λ n. n * ((page_at pages number).size + 1)) long in
            omega (arith, same, memory)
        | inr other ↦ elim other [
          | inl is_roomy ↦ (of-kind size per end some pages kinds are number inside roomy is_roomy).known.3
          | inr is_gone ↦ absurd (not-gone size per end some pages kinds are number rest inside stands is_gone)
        ]
      ]

      long-most : length (page_at pages number).spots ≤ places
      long-most = elim (kind-cases size per end some pages kinds are number) [
        | inl is_full ↦ (let long = (of-kind size per end some pages kinds are number inside full is_full).known.0 in omega (arith, long))
        | inr other ↦ elim other [
          | inl is_roomy ↦ (of-kind size per end some pages kinds are number inside roomy is_roomy).known.0
          | inr is_gone ↦ absurd (not-gone size per end some pages kinds are number rest inside stands is_gone)
        ]
      ]

      pub taken-are : ArePages size per end (set pages number after) now
      taken-are = elim taken [
        | inl without ↦
            let page = without.0 in
            let same = ap length page.spots ∙ length-set (page_at pages number).spots rest (free 0) in
            let most = long-most in
            let next = page.next in
            let sizes = ap (λ n. places * (n + 1)) page.size_is in
            let has = has-memory in
            let capacity = page.capacity in
            let within = old.within in
            pages-set size per end some pages kinds are number inside after roomy now without.1 (record {
              size_is = page.size_is ∙ old.size_is;
              next = page.known;
              known = (omega (arith, same, most), omega (arith, next, less), page.other, omega (arith, sizes, has, capacity));
              within = omega (arith, capacity, within);
            })
        | inr emptied ↦
            let page = emptied.0.page in
            pages-set size per end some pages kinds are number inside after gone now emptied.1 (record {
              size_is = ap (λ (page : PageList). page.size) page ∙ old.size_is;
              next = subst (λ (page : PageList). IsNext page.spots page.next) (sym page) empty-next;
              known = (page ∙ ap empty_page (sym (ap (λ (page : PageList). page.size) page)), omega (arith, less));
              within = (let none = ap (λ (page : PageList). page.capacity) page in omega (arith, none));
            })
      ]

      pub taken-spots : spots_to end (spot_of per (set pages number after)) ≡ set (spots_to end (spot_of per pages)) (start_of per number + rest) (free 0)
      taken-spots = elim taken [
        | inl without ↦
            let page = without.0 in
            spots-set size per end some pages kinds are number inside after rest less (free 0)
            (ap (λ spots. get_or spots rest (free 0)) page.spots ∙ get_or-set_same (page_at pages number).spots rest (free 0) (free 0) (held-inside (page_at pages number).spots rest stands))
            (λ other apart. ap (λ spots. get_or spots other (free 0)) page.spots ∙ get_or-set_other (page_at pages number).spots rest other (free 0) (free 0) apart)
        | inr emptied ↦
            let page = emptied.0 in
            spots-set size per end some pages kinds are number inside after rest less (free 0)
            (ap (λ (page : PageList). spot_in page rest) page.page)
            (λ other apart. ap (λ (page : PageList). spot_in page other) page.page ∙ sym (page.alone other apart))
      ]

-- ---- a record that comes to the end

-- The pages where there is one for the end.
module _ (size per end : ℕ) (some : 0 < per) (pages : List PageList) (kinds : Kinds) (are : ArePages size per end pages kinds) (no_roomy : kinds.next_roomy ≡ None) (no_gone : kinds.next_gone ≡ None)
    (begun : List PageList) (now : Kinds) (is_begun : IsBegun size pages begun kinds now (page_of per end)) where
  abbrev last : ℕ
  last = page_of per end

  -- What stands is the same, and all pages are full.
  pub record IsReady : Type 0 where
    pub pages_are : ArePages size per end begun now
    pub fulls : (number : ℕ) → number < length begun → kind_of now number ≡ full
    pub there : last < length begun
    pub spots : spots_to end (spot_of per begun) ≡ spots_to end (spot_of per pages)
    pub none_roomy : now.next_roomy ≡ None
    pub none_gone : now.next_gone ≡ None

  longer-each : (number : ℕ) → number < length pages → page_at (pages ++ empty_page size ∷ []) number ≡ page_at pages number
  longer-each number less = get_or_append_left pages (empty_page size ∷ []) (empty_page 0) number less

  longer-last : page_at (pages ++ empty_page size ∷ []) (length pages) ≡ empty_page size
  longer-last = get_or_push pages (empty_page size) (empty_page 0) (length pages) refl

  -- Where no page is of a kind, none is the next of it.
  none-next : (kind : Kind) (next : Option ℕ) → IsNextOf now next kind → ((number : ℕ) → number < length now.kinds → kind_of now number ≢ kind) → next ≡ None
  none-next kind None is none = refl
  none-next kind (Some number) is none = absurd (none number (is.some number refl).0 (is.some number refl).1)

  pub begun-ready : IsReady
  begun-ready = elim is_begun [
    | inl was ↦ record {
      pages_are = subst (λ ps. ArePages size per end ps now) (sym was.1) (subst (λ ks. ArePages size per end pages ks) (sym was.2) are);
      fulls = λ number inside. ap (λ ks. kind_of ks number) was.2 ∙ all-full size per end some pages kinds are no_roomy no_gone number (let long = ap length was.1 in omega (arith, inside, long));
      there = (let long = ap length was.1 in let less = was.0 in omega (arith, long, less));
      spots = ap (λ ps. spots_to end (spot_of per ps)) was.1;
      none_roomy = ap (λ (ks : Kinds). ks.next_roomy) was.2 ∙ no_roomy;
      none_gone = ap (λ (ks : Kinds). ks.next_gone) was.2 ∙ no_gone;
    }
    | inr new ↦
        let at_end = new.0 in
        let is = new.1 in
        let longer = new.2 in
        let long = ap length is ∙ length_push pages (empty_page size) in
        let counted = are.counted in
        let kinds_long = longer.long in
        let enough = are.enough in
        let step = start-next per some (length pages) in
        let fulls : (number : ℕ) → number < length begun → kind_of now number ≡ full = (λ number inside. elim (cases_lt number (length pages)) [
          | inl less ↦ longer.elsewhere number (omega (arith, less, counted)) ∙ all-full size per end some pages kinds are no_roomy no_gone number less
          | inr past ↦ ap (kind_of now) (let e : number ≡ length kinds.kinds = omega (arith, past, inside, long, counted) in e) ∙ longer.here
        ]) in
        record {
          pages_are = record {
            known = longer.known;
            counted = omega (arith, long, counted, kinds_long);
            enough = subst (λ n. end ≤ start_of per n) (sym long) (omega (arith, enough, step));
            few = omega (arith, long, at_end);
            each = λ number inside. elim (cases_lt number (length pages)) [
              | inl less ↦
                  subst (λ ps. IsPageOf size per end (kind_of now number) number (page_at ps number)) (sym is)
                  (subst (λ page. IsPageOf size per end (kind_of now number) number page) (sym (longer-each number less))
                  (subst (λ k. IsPageOf size per end k number (page_at pages number)) (sym (longer.elsewhere number (omega (arith, less, counted)))) (are.each number less)))
              | inr past ↦
                  let e : number ≡ length pages = omega (arith, past, inside, long) in
                  subst (λ ps. IsPageOf size per end (kind_of now number) number (page_at ps number)) (sym is)
                  (subst (λ n. IsPageOf size per end (kind_of now n) n (page_at (pages ++ empty_page size ∷ []) n)) (sym e)
                  (subst (λ page. IsPageOf size per end (kind_of now (length pages)) (length pages) page) (sym longer-last)
                  (subst (λ k. IsPageOf size per end k (length pages) (empty_page size)) (sym (fulls (length pages) (omega (arith, long)))) begun-page)))
            ];
          };
          fulls = fulls;
          there = omega (arith, long, at_end);
          spots = same-to end (spot_of per begun) (spot_of per pages) (λ at less.
              let inside = page-in size per end some pages kinds are at less in
              ap (λ ps. spot_of per ps at) is
              ∙ ap (λ page. spot_in page (rest_of per at)) (longer-each (page_of per at) inside));
          none_roomy = none-next roomy now.next_roomy longer.known.next_roomy (λ number less e. (let other = sym (fulls number (omega (arith, less, long, counted, kinds_long))) ∙ e in absurd (cc)));
          none_gone = none-next gone now.next_gone longer.known.next_gone (λ number less e. (let other = sym (fulls number (omega (arith, less, long, counted, kinds_long))) ∙ e in absurd (cc)));
        }
  ]
    where
      begun-page : IsPageOf size per end full (length pages) (empty_page size)
      begun-page =
          let enough = are.enough in
          let none : places_of per end (length pages) ≡ 0 = elim (places-are per end (length pages)) [
            | inl part ↦ omega (arith, part, enough)
            | inr whole ↦ (let one = size-some per some (length pages) in absurd (omega (arith, whole, enough, one)))
          ] in
          record { size_is = refl; next = empty-next; known = (sym none, sym none, λ has. absurd (omega (arith, has))); within = omega arith }

-- A record comes to the page of the end.
module _ (size per end : ℕ) (some : 0 < per) (pages : List PageList) (kinds : Kinds) (are : ArePages size per end pages kinds)
    (fulls : (number : ℕ) → number < length pages → kind_of kinds number ≡ full) (there : page_of per end < length pages)
    (before after : PageList) (same_size : before.size ≡ size) (same_spots : before.spots ≡ (page_at pages (page_of per end)).spots) (same_next : before.next ≡ (page_at pages (page_of per end)).next)
    (within : before.capacity ≤ size_of per (page_of per end) * (size + 1)) (spot : Spot) (stands : IsHeld spot) (filled : IsFilled before after spot) where
  abbrev number : ℕ
  number = page_of per end

  abbrev rest : ℕ
  rest = rest_of per end

  last-of : IsPageOf size per end full number (page_at pages number)
  last-of = of-kind size per end some pages kinds are number there full (fulls number there)

  last-places : places_of per end number ≡ rest
  last-places =
      let own = place-in per some end in
      elim (places-are per end number) [
        | inl part ↦ omega (arith, part, own)
        | inr whole ↦ absurd (omega (arith, whole, own))
      ]

  before-long : length before.spots ≡ rest
  before-long = ap length same_spots ∙ last-of.known.0 ∙ last-places

  pub before-next : before.next ≡ rest
  before-next = same_next ∙ last-of.known.1 ∙ last-places

  after-spots : after.spots ≡ before.spots ++ spot ∷ []
  after-spots = filled.spots ∙ put-end before.spots before.next spot (before-next ∙ sym before-long)

  after-long : length after.spots ≡ rest + 1
  after-long = ap length after-spots ∙ length_push before.spots spot ∙ ap (λ n. n + 1) before-long

  before-held : (at : ℕ) → at < rest → IsHeld (get_or before.spots at (free 0))
  before-held at less = subst (λ spots. IsHeld (get_or spots at (free 0))) (sym same_spots)
      (last-of.next.last (last-of.known.1 ∙ sym last-of.known.0) at (let long = last-of.known.0 in let places = last-places in omega (arith, less, long, places)))

  after-held : (at : ℕ) → at < rest + 1 → IsHeld (get_or after.spots at (free 0))
  after-held at less = elim (cases_lt at rest) [
    | inl inside ↦
        subst IsHeld (sym (ap (λ spots. get_or spots at (free 0)) after-spots ∙ get_or_append_left before.spots (spot ∷ []) (free 0) at (let long = before-long in omega (arith, inside, long))))
        (before-held at inside)
    | inr past ↦
        let long = before-long in
        subst IsHeld (sym (ap (λ spots. get_or spots at (free 0)) after-spots ∙ get_or_push before.spots spot (free 0) at (omega (arith, less, past, long)))) stands
  ]

  after-next : after.next ≡ rest + 1
  after-next =
      let most = filled.next.within in
      let long = after-long in
      elim (cases_lt after.next (rest + 1)) [
        | inl less ↦ absurd (filled.next.is_free (after-held after.next less))
        | inr past ↦ omega (arith, most, long, past)
      ]

  more-places : places_of per (end + 1) number ≡ rest + 1
  more-places =
      let own = place-in per some end in
      elim (places-are per (end + 1) number) [
        | inl part ↦ omega (arith, part, own)
        | inr whole ↦ omega (arith, whole, own)
      ]

  after-of : IsPageOf size per (end + 1) full number after
  after-of = record {
    size_is = filled.size_is ∙ same_size;
    next = filled.next;
    known = (after-long ∙ sym more-places, after-next ∙ sym more-places, λ _. (let places = more-places in omega (arith, places)));
    within = (let capacity = filled.capacity in omega (arith, capacity, within));
  }

  -- Other pages have all their places before and after.
  other-places : (other : ℕ) → other < length pages → other ≢ number → places_of per (end + 1) other ≡ places_of per end other
  other-places other inside apart =
      let few = are.few in
      let own = place-in per some end in
      let next = start-next per some other in
      let least = start-least per some (other + 1) number (omega (arith, inside, apart, few)) in
      let now : places_of per (end + 1) other ≡ size_of per other = elim (places-are per (end + 1) other) [
        | inl part ↦ absurd (omega (arith, part, own, next, least))
        | inr whole ↦ whole.0
      ] in
      let was : places_of per end other ≡ size_of per other = elim (places-are per end other) [
        | inl part ↦ absurd (omega (arith, part, own, next, least))
        | inr whole ↦ whole.0
      ] in
      now ∙ sym was

  other-of : (other : ℕ) → other < length pages → other ≢ number → IsPageOf size per (end + 1) full other (page_at pages other)
  other-of other inside apart =
      let of = of-kind size per end some pages kinds are other inside full (fulls other inside) in
      let same = other-places other inside apart in
      record {
        size_is = of.size_is;
        next = of.next;
        known = (of.known.0 ∙ sym same, of.known.1 ∙ sym same, λ has. (let positive = of.known.2 has in omega (arith, positive, same)));
        within = of.within;
      }

  pub pushed-are : ArePages size per (end + 1) (set pages number after) kinds
  pushed-are =
      let long = length-set pages number after in
      let counted = are.counted in record {
        known = are.known;
        counted = omega (arith, long, counted);
        enough = subst (λ n. end + 1 ≤ start_of per n) (sym long) (let less = place-less per some end (length pages) there in omega (arith, less));
        few = (let few = are.few in let least = page-least per some end (end + 1) (omega arith) in omega (arith, few, long, least));
        each = λ other inside. elim (cases_eq other number) [
          | inl same ↦
              subst (λ n. IsPageOf size per (end + 1) (kind_of kinds n) n (page_at (set pages number after) n)) (sym same)
              (subst (λ page. IsPageOf size per (end + 1) (kind_of kinds number) number page) (sym (get_or-set_same pages number after (empty_page 0) there))
              (subst (λ k. IsPageOf size per (end + 1) k number after) (sym (fulls number there)) after-of))
          | inr apart ↦
              let within_pages : other < length pages = omega (arith, inside, long) in
              subst (λ page. IsPageOf size per (end + 1) (kind_of kinds other) other page) (sym (get_or-set_other pages number other after (empty_page 0) apart))
              (subst (λ k. IsPageOf size per (end + 1) k other (page_at pages other)) (sym (fulls other within_pages)) (other-of other within_pages apart))
        ];
      }

  pub pushed-spots : spots_to (end + 1) (spot_of per (set pages number after)) ≡ put_at (spots_to end (spot_of per pages)) end spot
  pushed-spots =
      ap (λ n. spots_to n (spot_of per (set pages number after))) (add-one end)
      ∙ (λ i. same-to end (spot_of per (set pages number after)) (spot_of per pages) same i ++ last-spot i ∷ [])
      ∙ sym (put-end (spots_to end (spot_of per pages)) end spot (sym (length-to end (spot_of per pages))))
    where
      same : (at : ℕ) → at < end → spot_of per (set pages number after) at ≡ spot_of per pages at
      same at less = elim (cases_eq (page_of per at) number) [
        | inr apart ↦ ap (λ page. spot_in page (rest_of per at)) (get_or-set_other pages number (page_of per at) after (empty_page 0) apart)
        | inl here ↦
            let own = place-in per some at in
            let end_own = place-in per some end in
            let starts = ap (start_of per) here in
            let long = before-long in
            let before_rest : rest_of per at < rest = omega (arith, own, end_own, starts, less) in
            ap (λ n. spot_in (page_at (set pages number after) n) (rest_of per at)) here
            ∙ ap (λ page. spot_in page (rest_of per at)) (get_or-set_same pages number after (empty_page 0) there)
            ∙ ap (λ spots. get_or spots (rest_of per at) (free 0)) after-spots
            ∙ get_or_append_left before.spots (spot ∷ []) (free 0) (rest_of per at) (omega (arith, before_rest, long))
            ∙ ap (λ spots. get_or spots (rest_of per at) (free 0)) same_spots
            ∙ ap (λ n. spot_in (page_at pages n) (rest_of per at)) (sym here)
      ]

      last-spot : spot_of per (set pages number after) end ≡ spot
      last-spot =
          ap (λ page. spot_in page rest) (get_or-set_same pages number after (empty_page 0) there)
          ∙ ap (λ spots. get_or spots rest (free 0)) after-spots
          ∙ get_or_push before.spots spot (free 0) rest before-long
