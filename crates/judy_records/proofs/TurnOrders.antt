-- Turns that pages of one kind exchange, and the last page, which goes.
use Rattle.std.proofs.Common.{◌≡◌, ◌≢◌, ℕ, ◌+◌, ◌<◌, ◌≤◌, inl, inr, List, [], ◌∷◌, ◌++◌, length, get_or, refl, sym, ap, ◌∙◌, arith}
use Rattle.std.proofs.lemmas.Bool.{cases_lt, cases_eq}
use Rattle.std.proofs.lemmas.List.{length_push, get_or_past, get_or_append_left}
use Rattle.judy_records.specs.declared.turns.Turn.{Turn}
use Rattle.judy_records.specs.declared.turns.Turns.TheInside.{Inside}
use Rattle.judy_records.specs.Kinds.{gone, kind_of, IsShorter, AreAlike}
use Rattle.judy_records.specs.InTurns.{no_turn, turn_of, page_at, AreTurned, AreExchanged, kind_at, kinds_of, AreTurns}
use Rattle.judy_records.proofs.TurnLemmas.{kind-roomy, kind-gone, kind-is, kinds-long, kinds-known}

-- ---- turns of a part of the row

pub exchanged-same : (start end : ℕ) (row : List Turn) → AreExchanged start end row row
exchanged-same start end row = record { long = refl; each = λ page. inl refl }

pub exchanged-on : (start end : ℕ) (before middle after : List Turn) → AreExchanged start end before middle → AreExchanged start end middle after → AreExchanged start end before after
exchanged-on start end before middle after first second = record {
  long = second.long ∙ first.long;
  each = λ page. elim (first.each page) [
    | inl same ↦ elim (second.each page) [
      | inl also ↦ inl (also ∙ same)
      | inr other ↦ inr (omega (arith, other, same), omega (arith, other, same), other.2, other.3)
    ]
    | inr one ↦ elim (second.each page) [
      | inl same ↦ inr (one.0, one.1, omega (arith, one, same), omega (arith, one, same))
      | inr other ↦ inr (one.0, one.1, other.2, other.3)
    ]
  ];
}

-- A page that takes another turn of the part leaves it its own.
pub exchanged-within : (row after : List Turn) → AreTurned row → length after ≡ length row → (page turn : ℕ) → turn < length row → turn_of after page ≡ turn →
    (page_at row turn ≢ page → turn_of after (page_at row turn) ≡ turn_of row page) →
    ((at : ℕ) → at ≢ page → at ≢ page_at row turn → turn_of after at ≡ turn_of row at) →
    (start end : ℕ) → start ≤ turn → turn < end → start ≤ turn_of row page → turn_of row page < end → AreExchanged start end row after
exchanged-within row after are long page turn inside here there apart start end low high least most = record {
  long = long;
  each = λ at. elim (cases_eq at page) [
    | inl this ↦
        let was = ap (λ n. turn_of row n) this in
        let now = ap (λ n. turn_of after n) this ∙ here in
        inr (omega (arith, was, least), omega (arith, was, most), omega (arith, now, low), omega (arith, now, high))
    | inr off ↦ elim (cases_eq at (page_at row turn)) [
      | inl other ↦
          let was = ap (λ n. turn_of row n) other ∙ are.paged turn inside in
          let now = ap (λ n. turn_of after n) other ∙ there (λ e. off (other ∙ e)) in
          inr (omega (arith, was, low), omega (arith, was, high), omega (arith, now, least), omega (arith, now, most))
      | inr away ↦ inl (apart at off away)
    ]
  ];
}

-- ---- kinds

-- Where roomy pages exchange turns, each page is of its kind.
module _ (before after : Inside) (are : AreTurns before) (now : AreTurns after) (fulls : after.full ≡ before.full) (standings : after.standing ≡ before.standing)
    (exchanged : AreExchanged before.full before.standing before.row.items after.row.items) where
  alike-at : (page : ℕ) → kind_at before.full before.standing (turn_of after.row.items page) ≡ kind_at before.full before.standing (turn_of before.row.items page)
  alike-at page = elim (exchanged.each page) [
    | inl same ↦ ap (kind_at before.full before.standing) same
    | inr both ↦
        kind-roomy before.full before.standing (turn_of after.row.items page) both.2 both.3
        ∙ sym (kind-roomy before.full before.standing (turn_of before.row.items page) both.0 both.1)
  ]

  pub turns-alike : AreAlike (kinds_of before) (kinds_of after)
  turns-alike =
      let long = exchanged.long in
      let was_long = kinds-long before are in
      let now_long = kinds-long after now in record {
        known = kinds-known after now;
        long = now_long ∙ long ∙ sym was_long;
        each = λ page. elim (cases_lt page (length before.row.items)) [
          | inl inside ↦
              kind-is after now page (omega (arith, inside, long))
              ∙ (λ i. kind_at (fulls i) (standings i) (turn_of after.row.items page))
              ∙ alike-at page
              ∙ sym (kind-is before are page inside)
          | inr past ↦
              get_or_past (kinds_of after).kinds page gone (omega (arith, past, now_long, long))
              ∙ sym (get_or_past (kinds_of before).kinds page gone (omega (arith, past, was_long)))
        ];
      }

-- ---- the last page

module _ (row rest : List Turn) (last : Turn) (is : row ≡ rest ++ last ∷ []) where
  pub rest-long : length row ≡ length rest + 1
  rest-long = ap length is ∙ length_push rest last

  pub rest-first : (at : ℕ) → at < length rest → get_or row at no_turn ≡ get_or rest at no_turn
  rest-first at inside = ap (λ all. get_or all at no_turn) is ∙ get_or_append_left rest (last ∷ []) no_turn at inside

  module _ (are : AreTurned row) (own : turn_of row (length rest) ≡ length rest) where
    turn-first : (at : ℕ) → at < length rest → turn_of row at < length rest
    turn-first at inside =
        let long = rest-long in
        let within = are.turn_in at (omega (arith, inside, long)) in
        elim (cases_eq (turn_of row at) (length rest)) [
          | inl same ↦
              let page = sym (are.turned at (omega (arith, inside, long))) ∙ ap (λ n. page_at row n) (same ∙ sym own) ∙ are.turned (length rest) (omega (arith, long)) in
              absurd (omega (arith, page, inside))
          | inr apart ↦ omega (arith, within, long, apart)
        ]

    page-first : (at : ℕ) → at < length rest → page_at row at < length rest
    page-first at inside =
        let long = rest-long in
        let within = are.page_in at (omega (arith, inside, long)) in
        elim (cases_eq (page_at row at) (length rest)) [
          | inl same ↦ (let turn = sym (are.paged at (omega (arith, inside, long))) ∙ ap (λ n. turn_of row n) same ∙ own in absurd (omega (arith, turn, inside)))
          | inr apart ↦ omega (arith, within, long, apart)
        ]

    pub rest-are : AreTurned rest
    rest-are =
        let long = rest-long in record {
          turn_in = λ at inside.
              let is = ap (λ (turn : Turn). turn.turn) (rest-first at inside) in
              let within = turn-first at inside in
              omega (arith, is, within);
          turned = λ at inside.
              ap (λ (turn : Turn). page_at rest turn.turn) (sym (rest-first at inside))
              ∙ ap (λ (turn : Turn). turn.page) (sym (rest-first (turn_of row at) (turn-first at inside)))
              ∙ are.turned at (omega (arith, inside, long));
          page_in = λ at inside.
              let is = ap (λ (turn : Turn). turn.page) (rest-first at inside) in
              let within = page-first at inside in
              omega (arith, is, within);
          paged = λ at inside.
              ap (λ (turn : Turn). turn_of rest turn.page) (sym (rest-first at inside))
              ∙ ap (λ (turn : Turn). turn.turn) (sym (rest-first (page_at row at) (page-first at inside)))
              ∙ are.paged at (omega (arith, inside, long));
        }

-- The last page has gone: it takes the last turn, and goes with it.
module _ (before after : Inside) (are : AreTurns before) (row : List Turn) (exchanged : AreExchanged before.standing (length before.row.items) before.row.items row)
    (last : Turn) (is : row ≡ after.row.items ++ last ∷ []) (now : AreTurns after) (fulls : after.full ≡ before.full) (standings : after.standing ≡ before.standing)
    (behind : before.standing ≤ turn_of before.row.items (length after.row.items)) where
  long : length before.row.items ≡ length after.row.items + 1
  long = sym exchanged.long ∙ rest-long row after.row.items last is

  shorter-at : (page : ℕ) → kind_at before.full before.standing (turn_of row page) ≡ kind_at before.full before.standing (turn_of before.row.items page)
  shorter-at page =
      let least = are.fulls in
      elim (exchanged.each page) [
        | inl same ↦ ap (kind_at before.full before.standing) same
        | inr both ↦
            kind-gone before.full before.standing (turn_of row page) (omega (arith, both, least)) both.2
            ∙ sym (kind-gone before.full before.standing (turn_of before.row.items page) (omega (arith, both, least)) both.0)
      ]

  pub turns-shorter : IsShorter (kinds_of before) (kinds_of after)
  turns-shorter =
      let more = long in
      let least = are.fulls in
      let was_long = kinds-long before are in
      let now_long = kinds-long after now in record {
        known = kinds-known after now;
        long = omega (arith, more, was_long, now_long);
        last =
            ap (kind_of (kinds_of before)) now_long
            ∙ kind-is before are (length after.row.items) (omega (arith, more))
            ∙ kind-gone before.full before.standing (turn_of before.row.items (length after.row.items)) (omega (arith, behind, least)) behind;
        elsewhere = λ page inside.
            let first : page < length after.row.items = omega (arith, inside, now_long) in
            kind-is after now page first
            ∙ (λ i. kind_at (fulls i) (standings i) (turn_of after.row.items page))
            ∙ ap (λ (turn : Turn). kind_at before.full before.standing turn.turn) (sym (rest-first row after.row.items last is page first))
            ∙ shorter-at page
            ∙ sym (kind-is before are page (omega (arith, first, more)));
      }
