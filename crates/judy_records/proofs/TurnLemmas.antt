-- Turns that two pages exchange, and the kinds of pages by their turns.
use Rattle.std.proofs.Common.{◌≡◌, ◌≢◌, ℕ, ◌+◌, ◌<◌, ◌≤◌, ◌⊎◌, if◌then◌else◌, inl, inr, nat_lt, List, [], ◌∷◌, ◌++◌, length, get_or, set, map, Option, None, Some, refl, sym, ap, subst, ◌∙◌, arith}
use Rattle.std.proofs.Common.{lt-ltb, le-ltb}
use Rattle.std.proofs.lemmas.Bool.{cases_lt, cases_eq}
use Rattle.std.proofs.lemmas.Option.{none-some, same_Some}
use Rattle.std.proofs.lemmas.List.{length-set, length-map, length_push, get_or-map, get_or_past, get_or_push, get_or_append_left, get_or-set_same, get_or-set_other}
use Rattle.judy_records.specs.declared.turns.Turn.{Turn}
use Rattle.judy_records.specs.declared.turns.Turns.TheInside.{Inside}
use Rattle.judy_records.specs.Kinds.{Kind, full, roomy, gone, Kinds, kind_of, IsNextOf, AreKnown, IsSpare, IsMoved, IsLonger}
use Rattle.judy_records.specs.InTurns.{no_turn, turn_of, page_at, AreTurned, kind_at, kind_in, page_or_none, kinds_of, AreTurns}

-- ---- one write

abbrev pub with_turn : List Turn → ℕ → ℕ → List Turn
with_turn row page turn = set row page (record (get_or row page no_turn) { turn = turn })

abbrev pub with_page : List Turn → ℕ → ℕ → List Turn
with_page row turn page = set row turn (record (get_or row turn no_turn) { page = page })

module _ (row : List Turn) (at new : ℕ) (inside : at < length row) where
  turn-here : turn_of (with_turn row at new) at ≡ new
  turn-here = ap (λ (turn : Turn). turn.turn) (get_or-set_same row at (record (get_or row at no_turn) { turn = new }) no_turn inside)

  turn-other : (other : ℕ) → other ≢ at → turn_of (with_turn row at new) other ≡ turn_of row other
  turn-other other apart = ap (λ (turn : Turn). turn.turn) (get_or-set_other row at other (record (get_or row at no_turn) { turn = new }) no_turn apart)

  page-here : page_at (with_page row at new) at ≡ new
  page-here = ap (λ (turn : Turn). turn.page) (get_or-set_same row at (record (get_or row at no_turn) { page = new }) no_turn inside)

  page-other : (other : ℕ) → other ≢ at → page_at (with_page row at new) other ≡ page_at row other
  page-other other apart = ap (λ (turn : Turn). turn.page) (get_or-set_other row at other (record (get_or row at no_turn) { page = new }) no_turn apart)

  -- What isn't written stays.
  page-kept : (other : ℕ) → page_at (with_turn row at new) other ≡ page_at row other
  page-kept other = elim (cases_eq other at) [
    | inl here ↦
        ap (λ n. page_at (with_turn row at new) n) here
        ∙ ap (λ (turn : Turn). turn.page) (get_or-set_same row at (record (get_or row at no_turn) { turn = new }) no_turn inside)
        ∙ ap (λ n. page_at row n) (sym here)
    | inr apart ↦ ap (λ (turn : Turn). turn.page) (get_or-set_other row at other (record (get_or row at no_turn) { turn = new }) no_turn apart)
  ]

  turn-kept : (other : ℕ) → turn_of (with_page row at new) other ≡ turn_of row other
  turn-kept other = elim (cases_eq other at) [
    | inl here ↦
        ap (λ n. turn_of (with_page row at new) n) here
        ∙ ap (λ (turn : Turn). turn.turn) (get_or-set_same row at (record (get_or row at no_turn) { page = new }) no_turn inside)
        ∙ ap (λ n. turn_of row n) (sym here)
    | inr apart ↦ ap (λ (turn : Turn). turn.turn) (get_or-set_other row at other (record (get_or row at no_turn) { page = new }) no_turn apart)
  ]

-- ---- an exchange

module _ (row : List Turn) (are : AreTurned row) (page turn : ℕ) (page_inside : page < length row) (turn_inside : turn < length row) where
  abbrev was : ℕ
  was = turn_of row page

  abbrev other : ℕ
  other = page_at row turn

  abbrev row1 : List Turn
  row1 = with_turn row other was

  abbrev row2 : List Turn
  row2 = with_turn row1 page turn

  abbrev row3 : List Turn
  row3 = with_page row2 was other

  abbrev pub exchanged : List Turn
  exchanged = with_page row3 turn page

  long1 : length row1 ≡ length row
  long1 = length-set row other (record (get_or row other no_turn) { turn = was })

  long2 : length row2 ≡ length row
  long2 = length-set row1 page (record (get_or row1 page no_turn) { turn = turn }) ∙ long1

  long3 : length row3 ≡ length row
  long3 = length-set row2 was (record (get_or row2 was no_turn) { page = other }) ∙ long2

  pub exchanged-long : length exchanged ≡ length row
  exchanged-long = length-set row3 turn (record (get_or row3 turn no_turn) { page = page }) ∙ long3

  other-in : other < length row
  other-in = are.page_in turn turn_inside

  was-in : was < length row
  was-in = are.turn_in page page_inside

  in1 : page < length row1
  in1 = (let long = long1 in omega (arith, long, page_inside))

  in2 : was < length row2
  in2 = (let long = long2 in let inside = was-in in omega (arith, long, inside))

  in3 : turn < length row3
  in3 = (let long = long3 in omega (arith, long, turn_inside))

  turns-kept : (at : ℕ) → turn_of exchanged at ≡ turn_of row2 at
  turns-kept at = turn-kept row3 turn page in3 at ∙ turn-kept row2 was other in2 at

  pages-kept : (at : ℕ) → page_at row2 at ≡ page_at row at
  pages-kept at = page-kept row1 page turn in1 at ∙ page-kept row other was other-in at

  pub exchanged-here : turn_of exchanged page ≡ turn
  exchanged-here = turns-kept page ∙ turn-here row1 page turn in1

  pub exchanged-other : other ≢ page → turn_of exchanged other ≡ was
  exchanged-other apart = turns-kept other ∙ turn-other row1 page turn in1 other apart ∙ turn-here row other was other-in

  pub exchanged-elsewhere : (at : ℕ) → at ≢ page → at ≢ other → turn_of exchanged at ≡ turn_of row at
  exchanged-elsewhere at apart away = turns-kept at ∙ turn-other row1 page turn in1 at apart ∙ turn-other row other was other-in at away

  page-is : page_at exchanged turn ≡ page
  page-is = page-here row3 turn page in3

  page-was : was ≢ turn → page_at exchanged was ≡ other
  page-was apart = page-other row3 turn page in3 was apart ∙ page-here row2 was other in2

  page-elsewhere : (at : ℕ) → at ≢ turn → at ≢ was → page_at exchanged at ≡ page_at row at
  page-elsewhere at apart away = page-other row3 turn page in3 at apart ∙ page-other row2 was other in2 at away ∙ pages-kept at

  -- The two are one page where they have one turn.
  same-page : was ≡ turn → other ≡ page
  same-page same = ap (λ n. page_at row n) (sym same) ∙ are.turned page page_inside

  same-turn : other ≡ page → was ≡ turn
  same-turn same = ap (λ n. turn_of row n) (sym same) ∙ are.paged turn turn_inside

  pub exchanged-are : AreTurned exchanged
  exchanged-are = record {
    turn_in = λ at inside. elim (cases_eq at page) [
      | inl here ↦ (let is = ap (λ n. turn_of exchanged n) here ∙ exchanged-here in let long = exchanged-long in omega (arith, is, long, turn_inside))
      | inr apart ↦ elim (cases_eq at other) [
        | inl there ↦
            (let is = ap (λ n. turn_of exchanged n) there ∙ exchanged-other (λ e. apart (there ∙ e)) in let long = exchanged-long in let within = was-in in omega (arith, is, long, within))
        | inr away ↦
            let is = exchanged-elsewhere at apart away in
            let long = exchanged-long in
            let within = are.turn_in at (omega (arith, inside, long)) in
            omega (arith, is, long, within)
      ]
    ];
    turned = λ at inside. elim (cases_eq at page) [
      | inl here ↦ ap (λ n. page_at exchanged (turn_of exchanged n)) here ∙ ap (λ n. page_at exchanged n) exchanged-here ∙ page-is ∙ sym here
      | inr apart ↦ elim (cases_eq at other) [
        | inl there ↦
            ap (λ n. page_at exchanged (turn_of exchanged n)) there
            ∙ ap (λ n. page_at exchanged n) (exchanged-other (λ e. apart (there ∙ e)))
            ∙ page-was (λ same. apart (there ∙ same-page same))
            ∙ sym there
        | inr away ↦
            let long = exchanged-long in
            let own = are.turned at (omega (arith, inside, long)) in
            ap (λ n. page_at exchanged n) (exchanged-elsewhere at apart away)
            ∙ page-elsewhere (turn_of row at) (λ e. away (sym own ∙ ap (λ n. page_at row n) e)) (λ e. apart (sym own ∙ ap (λ n. page_at row n) e ∙ are.turned page page_inside))
            ∙ own
      ]
    ];
    page_in = λ at inside. elim (cases_eq at turn) [
      | inl here ↦ (let is = ap (λ n. page_at exchanged n) here ∙ page-is in let long = exchanged-long in omega (arith, is, long, page_inside))
      | inr apart ↦ elim (cases_eq at was) [
        | inl there ↦
            (let is = ap (λ n. page_at exchanged n) there ∙ page-was (λ e. apart (there ∙ e)) in let long = exchanged-long in let within = other-in in omega (arith, is, long, within))
        | inr away ↦
            let is = page-elsewhere at apart away in
            let long = exchanged-long in
            let within = are.page_in at (omega (arith, inside, long)) in
            omega (arith, is, long, within)
      ]
    ];
    paged = λ at inside. elim (cases_eq at turn) [
      | inl here ↦ ap (λ n. turn_of exchanged (page_at exchanged n)) here ∙ ap (λ n. turn_of exchanged n) page-is ∙ exchanged-here ∙ sym here
      | inr apart ↦ elim (cases_eq at was) [
        | inl there ↦
            ap (λ n. turn_of exchanged (page_at exchanged n)) there
            ∙ ap (λ n. turn_of exchanged n) (page-was (λ e. apart (there ∙ e)))
            ∙ exchanged-other (λ same. apart (there ∙ same-turn same))
            ∙ sym there
        | inr away ↦
            let long = exchanged-long in
            let own = are.paged at (omega (arith, inside, long)) in
            ap (λ n. turn_of exchanged n) (page-elsewhere at apart away)
            ∙ exchanged-elsewhere (page_at row at) (λ e. away (sym own ∙ ap (λ n. turn_of row n) e)) (λ e. apart (sym own ∙ ap (λ n. turn_of row n) e ∙ are.paged turn turn_inside))
            ∙ own
      ]
    ];
  }

-- ---- kinds by turns

module _ (fulls standing : ℕ) where
  pub kind-full : (turn : ℕ) → turn < fulls → kind_at fulls standing turn ≡ full
  kind-full turn less = ap (λ b. if b then full else (if nat_lt turn standing then roomy else gone)) (lt-ltb turn fulls less)

  pub kind-roomy : (turn : ℕ) → fulls ≤ turn → turn < standing → kind_at fulls standing turn ≡ roomy
  kind-roomy turn past less =
      ap (λ b. if b then full else (if nat_lt turn standing then roomy else gone)) (le-ltb turn fulls past)
      ∙ ap (λ b. if b then roomy else gone) (lt-ltb turn standing less)

  pub kind-gone : (turn : ℕ) → fulls ≤ turn → standing ≤ turn → kind_at fulls standing turn ≡ gone
  kind-gone turn past behind =
      ap (λ b. if b then full else (if nat_lt turn standing then roomy else gone)) (le-ltb turn fulls past)
      ∙ ap (λ b. if b then roomy else gone) (le-ltb turn standing behind)

  -- Where a turn is by its kind.
  pub full-turn : (turn : ℕ) → kind_at fulls standing turn ≡ full → turn < fulls
  full-turn turn is = elim (cases_lt turn fulls) [
    | inl less ↦ less
    | inr past ↦ elim (cases_lt turn standing) [
      | inl stands ↦ (let other = sym is ∙ kind-roomy turn past stands in absurd (cc))
      | inr behind ↦ (let other = sym is ∙ kind-gone turn past behind in absurd (cc))
    ]
  ]

  pub roomy-turn : (turn : ℕ) → kind_at fulls standing turn ≡ roomy → (fulls ≤ turn) × (turn < standing)
  roomy-turn turn is = elim (cases_lt turn fulls) [
    | inl less ↦ (let other = sym is ∙ kind-full turn less in absurd (cc))
    | inr past ↦ elim (cases_lt turn standing) [
      | inl stands ↦ (past, stands)
      | inr behind ↦ (let other = sym is ∙ kind-gone turn past behind in absurd (cc))
    ]
  ]

  pub gone-turn : (turn : ℕ) → kind_at fulls standing turn ≡ gone → (fulls ≤ turn) × (standing ≤ turn)
  gone-turn turn is = elim (cases_lt turn fulls) [
    | inl less ↦ (let other = sym is ∙ kind-full turn less in absurd (cc))
    | inr past ↦ elim (cases_lt turn standing) [
      | inl stands ↦ (let other = sym is ∙ kind-roomy turn past stands in absurd (cc))
      | inr behind ↦ (past, behind)
    ]
  ]

  -- On one side of both borders a turn has the same kind by others.
  pub kind-same : (fulls' standing' turn : ℕ) → ((turn < fulls) × (turn < fulls')) ⊎ ((fulls ≤ turn) × (fulls' ≤ turn)) →
      ((turn < standing) × (turn < standing')) ⊎ ((standing ≤ turn) × (standing' ≤ turn)) →
      kind_at fulls' standing' turn ≡ kind_at fulls standing turn
  kind-same fulls' standing' turn one two =
      let first : nat_lt turn fulls' ≡ nat_lt turn fulls = elim one [
        | inl less ↦ lt-ltb turn fulls' less.1 ∙ sym (lt-ltb turn fulls less.0)
        | inr past ↦ le-ltb turn fulls' past.1 ∙ sym (le-ltb turn fulls past.0)
      ] in
      let second : nat_lt turn standing' ≡ nat_lt turn standing = elim two [
        | inl less ↦ lt-ltb turn standing' less.1 ∙ sym (lt-ltb turn standing less.0)
        | inr past ↦ le-ltb turn standing' past.1 ∙ sym (le-ltb turn standing past.0)
      ] in
      λ i. if first i then full else (if second i then roomy else gone)

-- ---- what is known of them

module _ (turns : Inside) (are : AreTurns turns) where
  pub kind-is : (page : ℕ) → page < length turns.row.items → kind_of (kinds_of turns) page ≡ kind_at turns.full turns.standing (turn_of turns.row.items page)
  kind-is page inside = get_or-map (kind_in turns.full turns.standing) turns.row.items page no_turn gone inside

  pub kinds-long : length (kinds_of turns).kinds ≡ length turns.row.items
  kinds-long = length-map turns.row.items (kind_in turns.full turns.standing)

  pub kinds-known : AreKnown (kinds_of turns)
  kinds-known =
      let fulls = are.fulls in
      let standings = are.standings in
      let long = kinds-long in record {
        next_roomy = elim (cases_lt turns.full turns.standing) [
          | inl less ↦
              let inside : turns.full < length turns.row.items = omega (arith, less, standings) in
              let found : (kinds_of turns).next_roomy ≡ Some (page_at turns.row.items turns.full) = ap (λ b. if b then Some (page_at turns.row.items turns.full) else None)
              (lt-ltb turns.full turns.standing less) in
              let within = are.row.page_in turns.full inside in record {
                some = λ number next.
                    let same = same_Some _ number (sym found ∙ next) in (
                      omega (arith, within, long, same),
                      kind-is number (omega (arith, within, same))
                          ∙ ap (λ n. kind_at turns.full turns.standing (turn_of turns.row.items n)) (sym same)
                          ∙ ap (kind_at turns.full turns.standing) (are.row.paged turns.full inside)
                          ∙ kind-roomy turns.full turns.standing turns.full (omega arith) less,
                    );
                none = λ next. absurd (none-some _ (sym next ∙ found));
              }
          | inr past ↦
              let found : (kinds_of turns).next_roomy ≡ None = ap (λ b. if b then Some (page_at turns.row.items turns.full) else None) (le-ltb turns.full turns.standing past) in record {
                some = λ number next. absurd (none-some number (sym found ∙ next));
                none = λ next number inside is.
                    let turn = roomy-turn turns.full turns.standing (turn_of turns.row.items number) (sym (kind-is number (omega (arith, inside, long))) ∙ is) in
                    omega (arith, turn, past);
              }
        ];
        next_gone = elim (cases_lt turns.standing (length turns.row.items)) [
          | inl less ↦
              let found : (kinds_of turns).next_gone ≡ Some (page_at turns.row.items turns.standing) =
              ap (λ b. if b then Some (page_at turns.row.items turns.standing) else None) (lt-ltb turns.standing (length turns.row.items) less) in
              let within = are.row.page_in turns.standing less in record {
                some = λ number next.
                    let same = same_Some _ number (sym found ∙ next) in (
                      omega (arith, within, long, same),
                      kind-is number (omega (arith, within, same))
                          ∙ ap (λ n. kind_at turns.full turns.standing (turn_of turns.row.items n)) (sym same)
                          ∙ ap (kind_at turns.full turns.standing) (are.row.paged turns.standing less)
                          ∙ kind-gone turns.full turns.standing turns.standing fulls (omega arith),
                    );
                none = λ next. absurd (none-some _ (sym next ∙ found));
              }
          | inr past ↦
              let found : (kinds_of turns).next_gone ≡ None = ap (λ b. if b then Some (page_at turns.row.items turns.standing) else None) (le-ltb turns.standing
              (length turns.row.items) past) in record {
                some = λ number next. absurd (none-some number (sym found ∙ next));
                none = λ next number inside is.
                    let turn = gone-turn turns.full turns.standing (turn_of turns.row.items number) (sym (kind-is number (omega (arith, inside, long))) ∙ is) in
                    let within = are.row.turn_in number (omega (arith, inside, long)) in
                    omega (arith, turn, within, past);
              }
        ];
      }

-- A page takes the turn at a border, and the border moves past it: its kind alone changes.
module _ (before after : Inside) (are : AreTurns before) (now : AreTurns after) (long : length after.row.items ≡ length before.row.items) (page border : ℕ) (kind : Kind)
    (page_inside : page < length before.row.items) (border_inside : border < length before.row.items)
    (here : turn_of after.row.items page ≡ border)
    (there : page_at before.row.items border ≢ page → turn_of after.row.items (page_at before.row.items border) ≡ turn_of before.row.items page)
    (apart : (at : ℕ) → at ≢ page → at ≢ page_at before.row.items border → turn_of after.row.items at ≡ turn_of before.row.items at)
    (same : (turn : ℕ) → turn ≢ border → kind_at after.full after.standing turn ≡ kind_at before.full before.standing turn)
    (new : kind_at after.full after.standing border ≡ kind)
    (old : kind_at before.full before.standing border ≡ kind_at before.full before.standing (turn_of before.row.items page)) where
  kind-elsewhere : (at : ℕ) → at ≢ page → at < length before.row.items → kind_of (kinds_of after) at ≡ kind_of (kinds_of before) at
  kind-elsewhere at off inside =
      kind-is after now at (omega (arith, inside, long))
      ∙ elim (cases_eq at (page_at before.row.items border)) as (λ _. kind_at after.full after.standing (turn_of after.row.items at) ≡ kind_at before.full before.standing
      (turn_of before.row.items at)) [
        | inl other ↦
            ap (λ n. kind_at after.full after.standing (turn_of after.row.items n)) other
            ∙ ap (kind_at after.full after.standing) (there (λ e. off (other ∙ e)))
            ∙ same (turn_of before.row.items page) (λ e. off (other ∙ ap (λ n. page_at before.row.items n) (sym e) ∙ are.row.turned page page_inside))
            ∙ sym old
            ∙ ap (kind_at before.full before.standing) (sym (ap (λ n. turn_of before.row.items n) other ∙ are.row.paged border border_inside))
        | inr away ↦
            ap (kind_at after.full after.standing) (apart at off away)
            ∙ same (turn_of before.row.items at) (λ e. away (sym (are.row.turned at inside) ∙ ap (λ n. page_at before.row.items n) e))
      ]
      ∙ sym (kind-is before are at inside)

  pub turns-moved : IsMoved (kinds_of before) (kinds_of after) page kind
  turns-moved = record {
    known = kinds-known after now;
    long = kinds-long after now ∙ long ∙ sym (kinds-long before are);
    here = kind-is after now page (omega (arith, page_inside, long)) ∙ ap (kind_at after.full after.standing) here ∙ new;
    elsewhere = λ other off. elim (cases_lt other (length before.row.items)) [
      | inl inside ↦ kind-elsewhere other off inside
      | inr past ↦
          let is_long = kinds-long before are in
          let was_long = kinds-long after now in
          get_or_past (kinds_of after).kinds other gone (omega (arith, past, was_long, long))
          ∙ sym (get_or_past (kinds_of before).kinds other gone (omega (arith, past, is_long)))
    ];
  }

-- ---- a page more

module _ (row : List Turn) (are : AreTurned row) where
  abbrev pub longer : List Turn
  longer = row ++ record { page = length row; turn = length row } ∷ []

  pub longer-long : length longer ≡ length row + 1
  longer-long = length_push row (record { page = length row; turn = length row })

  longer-last : get_or longer (length row) no_turn ≡ record { page = length row; turn = length row }
  longer-last = get_or_push row (record { page = length row; turn = length row }) no_turn (length row) refl

  pub longer-first : (at : ℕ) → at < length row → get_or longer at no_turn ≡ get_or row at no_turn
  longer-first at inside = get_or_append_left row (record { page = length row; turn = length row } ∷ []) no_turn at inside

  pub longer-turn : turn_of longer (length row) ≡ length row
  longer-turn = ap (λ (turn : Turn). turn.turn) longer-last

  pub longer-are : AreTurned longer
  longer-are = record {
    turn_in = λ at inside. (let long = longer-long in elim (cases_lt at (length row)) [
      | inl less ↦ (let is = ap (λ (turn : Turn). turn.turn) (longer-first at less) in let within = are.turn_in at less in omega (arith, is, within, long))
      | inr past ↦ (let is = ap (λ n. turn_of longer n) (last at inside past) ∙ longer-turn in omega (arith, is, long))
    ]);
    turned = λ at inside. elim (cases_lt at (length row)) [
      | inl less ↦
          ap (λ (turn : Turn). page_at longer turn.turn) (longer-first at less)
          ∙ ap (λ (turn : Turn). turn.page) (longer-first (turn_of row at) (are.turn_in at less))
          ∙ are.turned at less
      | inr past ↦
          ap (λ n. page_at longer (turn_of longer n)) (last at inside past)
          ∙ ap (λ n. page_at longer n) longer-turn
          ∙ ap (λ (turn : Turn). turn.page) longer-last
          ∙ sym (last at inside past)
    ];
    page_in = λ at inside. (let long = longer-long in elim (cases_lt at (length row)) [
      | inl less ↦ (let is = ap (λ (turn : Turn). turn.page) (longer-first at less) in let within = are.page_in at less in omega (arith, is, within, long))
      | inr past ↦ (let is = ap (λ n. page_at longer n) (last at inside past) ∙ ap (λ (turn : Turn). turn.page) longer-last in omega (arith, is, long))
    ]);
    paged = λ at inside. elim (cases_lt at (length row)) [
      | inl less ↦
          ap (λ (turn : Turn). turn_of longer turn.page) (longer-first at less)
          ∙ ap (λ (turn : Turn). turn.turn) (longer-first (page_at row at) (are.page_in at less))
          ∙ are.paged at less
      | inr past ↦
          ap (λ n. turn_of longer (page_at longer n)) (last at inside past)
          ∙ ap (λ (turn : Turn). turn_of longer turn.page) longer-last
          ∙ longer-turn
          ∙ sym (last at inside past)
    ];
  }
    where
      last : (at : ℕ) → at < length longer → length row ≤ at → at ≡ length row
      last at inside past = (let long = longer-long in omega (arith, inside, past, long))

-- All pages were full, so that one is too.
module _ (before after : Inside) (are : AreTurns before) (now : AreTurns after) (is : after.row.items ≡ longer before.row.items are.row) (fulls : before.full ≡ length before.row.items)
    (fulls_now : after.full ≡ length before.row.items + 1) where
  pub turns-longer : IsLonger (kinds_of before) (kinds_of after)
  turns-longer =
      let long = ap length is ∙ longer-long before.row.items are.row in
      let was_long = kinds-long before are in record {
        known = kinds-known after now;
        long = kinds-long after now ∙ long ∙ ap (λ n. n + 1) (sym was_long);
        here =
            ap (kind_of (kinds_of after)) was_long
            ∙ kind-is after now (length before.row.items) (omega (arith, long))
            ∙ ap (λ row. kind_at after.full after.standing (turn_of row (length before.row.items))) is
            ∙ ap (kind_at after.full after.standing) (longer-turn before.row.items are.row)
            ∙ kind-full after.full after.standing (length before.row.items) (omega (arith, fulls_now));
        elsewhere = λ other inside.
            let less : other < length before.row.items = omega (arith, inside, was_long) in
            let within = are.row.turn_in other less in
            kind-is after now other (omega (arith, less, long))
            ∙ ap (λ row. kind_at after.full after.standing (turn_of row other)) is
            ∙ ap (λ (turn : Turn). kind_at after.full after.standing turn.turn) (longer-first before.row.items are.row other less)
            ∙ kind-full after.full after.standing (turn_of before.row.items other) (omega (arith, within, fulls_now))
            ∙ sym (kind-is before are other less ∙ kind-full before.full before.standing (turn_of before.row.items other) (omega (arith, within, fulls)));
      }

-- The same of kinds as callers see them.
module _ (before : Inside) (are : AreTurns before) {seen : Kinds} (view_is : kinds_of before ≡ seen) (page : ℕ) (within : page < length seen.kinds) where
  pub seen-inside : page < length before.row.items
  seen-inside = (let long = kinds-long before are in let same = ap (λ (all : Kinds). length all.kinds) view_is in omega (arith, long, same, within))

  pub seen-kind : {kind : Kind} → kind_of seen page ≡ kind → kind_at before.full before.standing (turn_of before.row.items page) ≡ kind
  seen-kind is = sym (kind-is before are page seen-inside) ∙ ap (λ (all : Kinds). kind_of all page) view_is ∙ is

-- Where no page is roomy or gone, all are full.
module _ (turns : Inside) (are : AreTurns turns) {seen : Kinds} (view_is : kinds_of turns ≡ seen) where
  pub all-full : seen.next_roomy ≡ None → seen.next_gone ≡ None → (turns.full ≡ length turns.row.items) × (turns.standing ≡ length turns.row.items)
  all-full none_roomy none_gone =
      let fulls = are.fulls in
      let standings = are.standings in
      let gone_past : length turns.row.items ≤ turns.standing = elim (cases_lt turns.standing (length turns.row.items)) [
        | inl less ↦
            absurd (none-some _ (sym (ap (λ (all : Kinds). all.next_gone) view_is ∙ none_gone) ∙
            ap (λ b. if b then Some (page_at turns.row.items turns.standing) else None) (lt-ltb turns.standing (length turns.row.items) less)))
        | inr past ↦ past
      ] in
      let roomy_past : turns.standing ≤ turns.full = elim (cases_lt turns.full turns.standing) [
        | inl less ↦
            absurd (none-some _ (sym (ap (λ (all : Kinds). all.next_roomy) view_is ∙ none_roomy) ∙
            ap (λ b. if b then Some (page_at turns.row.items turns.full) else None) (lt-ltb turns.full turns.standing less)))
        | inr past ↦ past
      ] in
      (omega (arith, fulls, standings, gone_past, roomy_past), omega (arith, standings, gone_past))

  -- Where none stands, all are gone, and the other way round.
  pub none-stands : turns.standing ≡ 0 → (page : ℕ) → page < length seen.kinds → kind_of seen page ≡ gone
  none-stands none page within =
      let fulls = are.fulls in
      sym (ap (λ (all : Kinds). kind_of all page) view_is)
      ∙ kind-is turns are page (seen-inside turns are view_is page within)
      ∙ kind-gone turns.full turns.standing (turn_of turns.row.items page) (omega (arith, fulls, none)) (omega (arith, none))

  pub gone-stands : ((page : ℕ) → page < length seen.kinds → kind_of seen page ≡ gone) → turns.standing ≡ 0
  gone-stands all = elim (cases_lt 0 turns.standing) [
    | inl some ↦
        let standings = are.standings in
        let long = kinds-long turns are in
        let same = ap (λ (all : Kinds). length all.kinds) view_is in
        let inside : 0 < length turns.row.items = omega (arith, some, standings) in
        let page = page_at turns.row.items 0 in
        let page_in = are.row.page_in 0 inside in
        let is = seen-kind turns are view_is page (omega (arith, page_in, long, same)) (all page (omega (arith, page_in, long, same))) in
        let behind = gone-turn turns.full turns.standing (turn_of turns.row.items page) is in
        let turn = are.row.paged 0 inside in
        absurd (omega (arith, behind, turn, some))
    | inr none ↦ omega (arith, none)
  ]

-- Whether a page is spare shows by its turn.
module _ (turns : Inside) (are : AreTurns turns) {seen : Kinds} (view_is : kinds_of turns ≡ seen) (page : ℕ) (within : page < length seen.kinds) where
  abbrev turn : ℕ
  turn = turn_of turns.row.items page

  next-is : turns.full < turns.standing → seen.next_roomy ≡ Some (page_at turns.row.items turns.full)
  next-is less =
      sym (ap (λ (all : Kinds). all.next_roomy) view_is)
      ∙ ap (λ b. if b then Some (page_at turns.row.items turns.full) else None) (lt-ltb turns.full turns.standing less)

  pub spare-turn : IsSpare seen page → (turns.full < turn) × (turn < turns.standing)
  spare-turn is =
      let inside = seen-inside turns are view_is page within in
      let there = roomy-turn turns.full turns.standing turn (seen-kind turns are view_is page within is.is_roomy) in
      elim (cases_eq turn turns.full) [
        | inl same ↦
            absurd (is.later (next-is (omega (arith, there, same)) ∙ ap (λ n. Some (page_at turns.row.items n)) (sym same) ∙ ap (λ n. Some n) (are.row.turned page inside)))
        | inr apart ↦ (omega (arith, there, apart), there.1)
      ]

  pub turn-spare : turns.full < turn → turn < turns.standing → IsSpare seen page
  turn-spare past less =
      let inside = seen-inside turns are view_is page within in record {
        is_roomy =
            sym (ap (λ (all : Kinds). kind_of all page) view_is)
            ∙ kind-is turns are page inside
            ∙ kind-roomy turns.full turns.standing turn (omega (arith, past)) less;
        later = λ e.
            let first : turns.full < turns.standing = omega (arith, past, less) in
            let same = same_Some (page_at turns.row.items turns.full) page (sym (next-is first) ∙ e) in
            let standings = are.standings in
            let own = are.row.paged turns.full (omega (arith, first, standings)) in
            let turned = ap (λ n. turn_of turns.row.items n) same in
            omega (arith, past, own, turned);
      }
