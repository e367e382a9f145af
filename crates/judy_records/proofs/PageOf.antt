-- Which page a place is in: pages follow one another, and none is left out.
use Rattle.std.proofs.Common.{◌≡◌, ℕ, ◌+◌, ◌-◌, ◌*◌, ◌/◌, ◌%◌, ◌^◌, ◌<◌, ◌≤◌, ◌⊎◌, if◌then◌else◌, nat_lt, inl, inr, refl, sym, ap, ◌∙◌, arith, lt-ltb, le-ltb}
use Rattle.std.proofs.lemmas.Bool.{cases_lt}
use Rattle.std.proofs.lemmas.Nat.{mul-le, pow_pos, div-add-mod', mod_below}
use Rattle.judy_records.specs.Pages.{shift_of, per_of, units_of, units_before, unit_page, unit_rest, size_of, start_of, page_of, rest_of, IsAt}

-- ---- pages by parts as long as a short one

pub units-are : (page : ℕ) → ((page < 64) × (units_of page ≡ 1) × (units_before page ≡ page)) ⊎ ((64 ≤ page) × (units_of page ≡ 8) × (units_before page ≡ (page - 56) * 8))
unfolding units_of units_before
units-are page = elim (cases_lt page 64) [
  | inl less ↦ let short = lt-ltb page 64 less in inl (less, ap (λ b. if b then 1 else 8) short, ap (λ b. if b then page else (page - 56) * 8) short)
  | inr past ↦ let long = le-ltb page 64 past in inr (past, ap (λ b. if b then 1 else 8) long, ap (λ b. if b then page else (page - 56) * 8) long)
]

pub unit-is : (unit : ℕ) → ((unit < 64) × (unit_page unit ≡ unit) × (unit_rest unit ≡ 0)) ⊎ ((64 ≤ unit) × (unit_page unit ≡ unit / 8 + 56) × (unit_rest unit ≡ unit % 8))
unfolding unit_page unit_rest
unit-is unit = elim (cases_lt unit 64) [
  | inl less ↦ let short = lt-ltb unit 64 less in inl (less, ap (λ b. if b then unit else unit / 8 + 56) short, ap (λ b. if b then 0 else unit % 8) short)
  | inr past ↦ let long = le-ltb unit 64 past in inr (past, ap (λ b. if b then unit else unit / 8 + 56) long, ap (λ b. if b then 0 else unit % 8) long)
]

pub unit-in : (unit : ℕ) → (unit ≡ units_before (unit_page unit) + unit_rest unit) × (unit_rest unit + 1 ≤ units_of (unit_page unit))
unit-in unit = elim (unit-is unit) [
  | inl short ↦ elim (units-are (unit_page unit)) [
    | inl page ↦ (omega (arith, short, page), omega (arith, short, page))
    | inr page ↦ absurd (omega (arith, short, page))
  ]
  | inr long ↦ elim (units-are (unit_page unit)) [
    | inl page ↦ absurd (omega (arith, long, page))
    | inr page ↦ (omega (arith, long, page), omega (arith, long, page))
  ]
]

units-next : (page : ℕ) → units_before (page + 1) ≡ units_before page + units_of page
units-next page = elim (units-are page) [
  | inl short ↦ elim (units-are (page + 1)) [
    | inl next ↦ omega (arith, short, next)
    | inr next ↦ omega (arith, short, next)
  ]
  | inr long ↦ elim (units-are (page + 1)) [
    | inl next ↦ absurd (omega (arith, long, next))
    | inr next ↦ omega (arith, long, next)
  ]
]

units-least : (a b : ℕ) → a ≤ b → units_before a ≤ units_before b
units-least a b less = elim (units-are a) [
  | inl short ↦ elim (units-are b) [
    | inl other ↦ omega (arith, less, short, other)
    | inr other ↦ omega (arith, less, short, other)
  ]
  | inr long ↦ elim (units-are b) [
    | inl other ↦ absurd (omega (arith, less, long, other))
    | inr other ↦ omega (arith, less, long, other)
  ]
]

pub units-some : (page : ℕ) → 1 ≤ units_of page
units-some page = elim (units-are page) [
  | inl short ↦ omega (arith, short)
  | inr long ↦ omega (arith, long)
]

pub units-most : (page : ℕ) → units_of page ≤ 8
units-most page = elim (units-are page) [
  | inl short ↦ omega (arith, short)
  | inr long ↦ omega (arith, long)
]

module _ (per : ℕ) (some : 0 < per) where
  -- ---- a place in its page

  pub place-in : (place : ℕ) → (place ≡ start_of per (page_of per place) + rest_of per place) × (rest_of per place < size_of per (page_of per place))
  unfolding start_of page_of rest_of size_of
  place-in place =
      let unit = place / per in
      let own = unit-in unit in
      let whole = div-add-mod' place per in
      let low = mod_below place per some in
      let parts : (units_before (unit_page unit) + unit_rest unit) * per ≡ units_before (unit_page unit) * per + unit_rest unit * per = grind arith in
      let units = ap (λ n. n * per) own.0 in
      let most = mul-le (unit_rest unit + 1) per (units_of (unit_page unit)) per own.1 (omega arith) in
      let more : (unit_rest unit + 1) * per ≡ unit_rest unit * per + per = grind arith in
      (omega (arith, whole, parts, units), omega (arith, low, most, more))

  -- ---- pages in their order

  pub size-some : (page : ℕ) → 0 < size_of per page
  unfolding size_of
  size-some page = (let most = mul-le 1 per (units_of page) per (units-some page) (omega arith) in omega (arith, most, some))

  pub start-next : (page : ℕ) → start_of per (page + 1) ≡ start_of per page + size_of per page
  unfolding start_of size_of
  start-next page =
      let parts : (units_before page + units_of page) * per ≡ units_before page * per + units_of page * per = grind arith in
      ap (λ n. n * per) (units-next page) ∙ parts

  pub start-least : (a b : ℕ) → a ≤ b → start_of per a ≤ start_of per b
  unfolding start_of
  start-least a b less = mul-le (units_before a) per (units_before b) per (units-least a b less) (omega arith)

  -- A page that begins behind a place is behind its page,
  pub page-less : (place page : ℕ) → place < start_of per page → page_of per place < page
  page-less place page before = elim (cases_lt (page_of per place) page) [
    | inl less ↦ less
    | inr past ↦
        let least = start-least page (page_of per place) past in
        let own = place-in place in
        absurd (omega (arith, before, least, own))
  ]

  -- and the other way round.
  pub place-less : (place page : ℕ) → page_of per place < page → place < start_of per page
  place-less place page less =
      let next = start-least (page_of per place + 1) page (omega (arith, less)) in
      let step = start-next (page_of per place) in
      let own = place-in place in
      omega (arith, next, step, own)

  pub page-least : (place count : ℕ) → place ≤ count → page_of per place ≤ page_of per count
  page-least place count less =
      let next = place-less count (page_of per count + 1) (omega arith) in
      let within = page-less place (page_of per count + 1) (omega (arith, less, next)) in
      omega (arith, within)

  -- So many records have no more pages than begin among them.
  pub page-most : (count page : ℕ) → count ≤ start_of per page → page_of per count ≤ page
  page-most count page most =
      let step = start-next page in
      let one = size-some page in
      let less = page-less count (page + 1) (omega (arith, most, step, one)) in
      omega (arith, less)

  -- No other page has the place.
  pub only-at : (place page rest : ℕ) → place ≡ start_of per page + rest → rest < size_of per page → IsAt per place page rest
  only-at place page rest sum less =
      let step = start-next page in
      let within = page-less place (page + 1) (omega (arith, sum, less, step)) in
      let same : page ≡ page_of per place = elim (cases_lt (page_of per place) page) [
        | inl before ↦ (let past = place-less place page before in absurd (omega (arith, past, sum)))
        | inr most ↦ omega (arith, most, within)
      ] in
      let own = place-in place in
      let starts = ap (start_of per) same in
      record { page_is = same; rest_is = omega (arith, sum, own, starts) }

pub size-is : (per page : ℕ) → size_of per page ≡ units_of page * per
unfolding size_of
size-is per page = refl

pub start-is : (per page : ℕ) → start_of per page ≡ units_before page * per
unfolding start_of
start-is per page = refl

pub at-is : (per place page before : ℕ) → page ≡ unit_page (place / per) → before ≡ unit_rest (place / per) → IsAt per place page (before * per + place % per)
unfolding page_of rest_of
at-is per place page before is also = record { page_is = is; rest_is = ap (λ n. n * per + place % per) also }

-- ---- the places of a short page

pub per-some : (shift : ℕ) → 0 < 2 ^ shift
per-some shift = pow_pos shift

pub per-is : (size shift : ℕ) → shift ≡ shift_of size → per_of size ≡ 2 ^ shift
unfolding per_of
per-is size shift is = ap (λ n. 2 ^ n) (sym is)

pub shift-9 : (size : ℕ) → 0 ≤ size → size < 1 → 9 ≡ shift_of size
unfolding shift_of
shift-9 size low high = rw (lt-ltb size 1 high) refl

pub shift-8 : (size : ℕ) → 1 ≤ size → size < 2 → 8 ≡ shift_of size
unfolding shift_of
shift-8 size low high = rw (le-ltb size 1 (omega (arith, low)), lt-ltb size 2 high) refl

pub shift-7 : (size : ℕ) → 2 ≤ size → size < 4 → 7 ≡ shift_of size
unfolding shift_of
shift-7 size low high = rw (le-ltb size 1 (omega (arith, low)), le-ltb size 2 (omega (arith, low)), lt-ltb size 4 high) refl

pub shift-6 : (size : ℕ) → 4 ≤ size → size < 8 → 6 ≡ shift_of size
unfolding shift_of
shift-6 size low high = rw (le-ltb size 1 (omega (arith, low)), le-ltb size 2 (omega (arith, low)), le-ltb size 4 (omega (arith, low)), lt-ltb size 8 high) refl

pub shift-5 : (size : ℕ) → 8 ≤ size → size < 16 → 5 ≡ shift_of size
unfolding shift_of
shift-5 size low high = rw (le-ltb size 1 (omega (arith, low)), le-ltb size 2 (omega (arith, low)), le-ltb size 4 (omega (arith, low)), le-ltb size 8 (omega (arith, low)), lt-ltb size 16 high) refl

pub shift-4 : (size : ℕ) → 16 ≤ size → size < 32 → 4 ≡ shift_of size
unfolding shift_of
shift-4 size low high = rw (
  le-ltb size 1 (omega (arith, low)),
  le-ltb size 2 (omega (arith, low)),
  le-ltb size 4 (omega (arith, low)),
  le-ltb size 8 (omega (arith, low)),
  le-ltb size 16
      (omega (arith, low)),
  lt-ltb size 32 high,
) refl

pub shift-3 : (size : ℕ) → 32 ≤ size → size < 64 → 3 ≡ shift_of size
unfolding shift_of
shift-3 size low high = rw (
  le-ltb size 1 (omega (arith, low)),
  le-ltb size 2 (omega (arith, low)),
  le-ltb size 4 (omega (arith, low)),
  le-ltb size 8 (omega (arith, low)),
  le-ltb size 16
      (omega (arith, low)),
  le-ltb size 32 (omega (arith, low)),
  lt-ltb size 64 high,
) refl

pub shift-2 : (size : ℕ) → 64 ≤ size → size < 128 → 2 ≡ shift_of size
unfolding shift_of
shift-2 size low high = rw (
  le-ltb size 1 (omega (arith, low)),
  le-ltb size 2 (omega (arith, low)),
  le-ltb size 4 (omega (arith, low)),
  le-ltb size 8 (omega (arith, low)),
  le-ltb size 16
      (omega (arith, low)),
  le-ltb size 32 (omega (arith, low)),
  le-ltb size 64 (omega (arith, low)),
  lt-ltb size 128 high,
) refl

pub shift-1 : (size : ℕ) → 128 ≤ size → size < 256 → 1 ≡ shift_of size
unfolding shift_of
shift-1 size low high = rw (
  le-ltb size 1 (omega (arith, low)),
  le-ltb size 2 (omega (arith, low)),
  le-ltb size 4 (omega (arith, low)),
  le-ltb size 8 (omega (arith, low)),
  le-ltb size 16
      (omega (arith, low)),
  le-ltb size 32 (omega (arith, low)),
  le-ltb size 64 (omega (arith, low)),
  le-ltb size 128 (omega (arith, low)),
  lt-ltb size 256 high,
) refl

pub shift-0 : (size : ℕ) → 256 ≤ size → 0 ≡ shift_of size
unfolding shift_of
shift-0 size low = rw (
  le-ltb size 1 (omega (arith, low)),
  le-ltb size 2 (omega (arith, low)),
  le-ltb size 4 (omega (arith, low)),
  le-ltb size 8 (omega (arith, low)),
  le-ltb size 16 (omega
      (arith, low)),
  le-ltb size 32 (omega (arith, low)),
  le-ltb size 64 (omega (arith, low)),
  le-ltb size 128 (omega (arith, low)),
  le-ltb size 256 (omega (arith, low)),
) refl

pub shift-most : (size : ℕ) → shift_of size ≤ 9
shift-most size = elim (cases_lt size 1) [
  | inl less1 ↦ (let is = shift-9 size (omega arith) less1 in omega (arith, is))
  | inr past1 ↦ elim (cases_lt size 2) [
    | inl less2 ↦ (let is = shift-8 size (omega (arith, past1)) less2 in omega (arith, is))
    | inr past2 ↦ elim (cases_lt size 4) [
      | inl less3 ↦ (let is = shift-7 size (omega (arith, past2)) less3 in omega (arith, is))
      | inr past3 ↦ elim (cases_lt size 8) [
        | inl less4 ↦ (let is = shift-6 size (omega (arith, past3)) less4 in omega (arith, is))
        | inr past4 ↦ elim (cases_lt size 16) [
          | inl less5 ↦ (let is = shift-5 size (omega (arith, past4)) less5 in omega (arith, is))
          | inr past5 ↦ elim (cases_lt size 32) [
            | inl less6 ↦ (let is = shift-4 size (omega (arith, past5)) less6 in omega (arith, is))
            | inr past6 ↦ elim (cases_lt size 64) [
              | inl less7 ↦ (let is = shift-3 size (omega (arith, past6)) less7 in omega (arith, is))
              | inr past7 ↦ elim (cases_lt size 128) [
                | inl less8 ↦ (let is = shift-2 size (omega (arith, past7)) less8 in omega (arith, is))
                | inr past8 ↦ elim (cases_lt size 256) [
                  | inl less9 ↦ (let is = shift-1 size (omega (arith, past8)) less9 in omega (arith, is))
                  | inr past9 ↦ (let is = shift-0 size past9 in omega (arith, is))
                ]
              ]
            ]
          ]
        ]
      ]
    ]
  ]
]
