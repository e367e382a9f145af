-- What the neighbours of a word array are, seen from a side.
use Rattle.std.proofs.Common.{◌≡◌, ◌≢◌, ℕ, ◌-◌, List, [], ◌∷◌, length, take, drop, Bool, true, false, ◌&&◌, IsTrue, Option, Some, None, is_some, sym, refl, ap, ◌∙◌, arith, le-leb}
use Rattle.std.proofs.Common.{Ordering, is_lt, is_le, is_ge}
use Rattle.std.specs.Ordering.{ordering_then}
use Rattle.std.specs.Cmp.{nat_cmp_total}
use Rattle.std.specs.Cmp.Lexicographic.{slice_cmp}
use Rattle.std.proofs.lemmas.Bool.{and_parts, and_from}
use Rattle.std.proofs.lemmas.List.{take_rest}
use Rattle.std.specs.FinMap.{FinMap, nat_cmp-IsAntisymmetric, get, contains_key}
use Rattle.judy_model.specs.Keys.{IsWord, word_order}
use Rattle.judy_model.specs.Nearest.{IsLeast}
use Rattle.judy_model.specs.Neighbours.{first, next, last, prev}
use Rattle.judy_model.proofs.lemmas.orders.Orders.{ge_is_le, gt_is_lt}
use Rattle.judy_model.proofs.lemmas.orders.WordOrder.{is_le_word, is_ge_word, lt_word, lt_from_word, le_word, le_from_word}
use Rattle.judy_model.proofs.lemmas.queries.NearestLemmas.{first-IsFirst, next-IsNext, last-IsLast, prev-IsPrev}
use Rattle.judy_sl.specs.declared.scans.Side.{Side}
use Rattle.judy_sl.specs.declared.scans.Side.TheVariants.{Above, Below}
use Rattle.judy_sl.specs.Pieces.{pieces, ArePieces, IsText}
use Rattle.judy_sl.specs.declared.scans.Look.{Look}
use Rattle.judy_sl.specs.World.{World}
use Rattle.judy_sl.specs.Scans.{along, along_bytes, is_beyond, meets, IsNearestEntry, IsFirstEntry}
use Rattle.judy_sl.proofs.lemmas.pieces.PieceLemmas.{first_decides, final-not_inner, order-pieces, pieces_are, text-drop}

-- The least of what passes one of two tests that agree on keys is that of the other.
least_agree : (order : ℕ → ℕ → Ordering) (one other : ℕ → Bool) → ((key : ℕ) → one key ≡ other key) → (answer : Option ℕ) → IsLeast order one answer → IsLeast order other answer
least_agree order one other agree None none = λ key. sym (agree key) ∙ none key
least_agree order one other agree (Some least) some = (sym (agree least) ∙ some.0, λ key passes. some.1 key (agree key ∙ passes))

module _ (map : FinMap word_order ℕ) (from : ℕ) where
  pub above-next : IsNearestEntry Above false map from (next map from)
  above-next = least_agree word_order _ _ (λ key. ap (λ b. contains_key map key && b) (gt_is_lt nat_cmp_total key from)) (next map from) (next-IsNext nat_cmp_total nat_cmp-IsAntisymmetric map from)

  pub above-first : IsNearestEntry Above true map from (first map from)
  above-first =
      least_agree word_order _ _ (λ key. ap (λ b. contains_key map key && b) (ge_is_le nat_cmp_total key from)) (first map from) (first-IsFirst nat_cmp_total nat_cmp-IsAntisymmetric map from)

  pub below-prev : IsNearestEntry Below false map from (prev map from)
  below-prev = prev-IsPrev nat_cmp_total nat_cmp-IsAntisymmetric map from

  pub below-last : IsNearestEntry Below true map from (last map from)
  below-last = last-IsLast nat_cmp_total nat_cmp-IsAntisymmetric map from

both_true : (held side : Bool) → (IsTrue held → IsTrue side) → (held && side) ≡ held
both_true true side each = each refl
both_true false side each = refl

module _ (map : FinMap word_order ℕ) where
  pub above-end : IsFirstEntry Above map (first map 0)
  above-end =
      least_agree word_order _ (contains_key map) (λ key. both_true (contains_key map key) (is_ge (word_order key 0)) (λ held. is_ge_word key 0 ∙ le-leb 0 key (omega arith)))
      (first map 0) (first-IsFirst nat_cmp_total nat_cmp-IsAntisymmetric map 0)

  pub below-end : ((piece : ℕ) → IsTrue (contains_key map piece) → IsWord piece) → IsFirstEntry Below map (last map 18446744073709551615)
  below-end words =
      least_agree (λ left right. word_order right left) _ (contains_key map) (λ key. both_true (contains_key map key) (is_le (word_order key 18446744073709551615))
      (λ held. is_le_word key 18446744073709551615 ∙ le-leb key 18446744073709551615 (let small = words key held in omega arith))) (last map 18446744073709551615)
      (last-IsLast nat_cmp_total nat_cmp-IsAntisymmetric map 18446744073709551615)

-- ---- an entry from a piece on, of another piece

module _ (map : FinMap word_order ℕ) (piece entry : ℕ) (apart : entry ≢ piece) where
  -- It is met first beyond the piece,
  pub apart-beyond : (side : Side) → IsNearestEntry side true map piece (Some entry) → IsNearestEntry side false map piece (Some entry)
  apart-beyond Above nearest =
      let parts = and_parts (contains_key map entry) (is_le (word_order piece entry)) nearest.0 in
      let most = le_from_word piece entry parts.1 in (
        and_from (contains_key map entry) (is_lt (word_order piece entry)) parts.0 (lt_word piece entry (omega (arith, most, apart))),
        λ key passes.
            let beyond = and_parts (contains_key map key) (is_lt (word_order piece key)) passes in
            let less = lt_from_word piece key beyond.1 in
            nearest.1 key (and_from (contains_key map key) (is_le (word_order piece key)) beyond.0 (le_word piece key (omega (arith, less)))),
      )
  apart-beyond Below nearest =
      let parts = and_parts (contains_key map entry) (is_le (word_order entry piece)) nearest.0 in
      let most = le_from_word entry piece parts.1 in (
        and_from (contains_key map entry) (is_lt (word_order entry piece)) parts.0 (lt_word entry piece (omega (arith, most, apart))),
        λ key passes.
            let beyond = and_parts (contains_key map key) (is_lt (word_order key piece)) passes in
            let less = lt_from_word key piece beyond.1 in
            nearest.1 key (and_from (contains_key map key) (is_le (word_order key piece)) beyond.0 (le_word key piece (omega (arith, less)))),
      )

  never_there : (side : Side) → IsNearestEntry side true map piece (Some entry) → IsTrue (contains_key map piece) → ⊥
  never_there Above nearest there =
      let most = le_from_word piece entry (and_parts (contains_key map entry) (is_le (word_order piece entry)) nearest.0).1 in
      let least = le_from_word entry piece (nearest.1 piece (and_from (contains_key map piece) (is_le (word_order piece piece)) there (le_word piece piece (omega arith)))) in
      apart (omega (arith, most, least))
  never_there Below nearest there =
      let most = le_from_word entry piece (and_parts (contains_key map entry) (is_le (word_order entry piece)) nearest.0).1 in
      let least = le_from_word piece entry (nearest.1 piece (and_from (contains_key map piece) (is_le (word_order piece piece)) there (le_word piece piece (omega arith)))) in
      apart (omega (arith, most, least))

  -- and the piece has no entry.
  pub apart-absent : (side : Side) → IsNearestEntry side true map piece (Some entry) → get map piece ≡ None
  apart-absent side nearest =
      elim (get map piece) as (λ found. get map piece ≡ found → found ≡ None) [
        | None ↦ λ is. refl
        | Some value ↦ λ is. absurd (never_there side nearest (ap is_some is))
      ] refl

-- ---- rests of keys

turned_pieces : (one two : List ℕ) → ArePieces one → ArePieces two → slice_cmp (λ left right. word_order right left) one two ≡ slice_cmp word_order two one
turned_pieces [] two are also = absurd are
turned_pieces (p ∷ ps) [] are also = absurd also
turned_pieces (p ∷ []) (q ∷ []) are also = refl
turned_pieces (p ∷ []) (q ∷ next ∷ qs) are also =
    first_decides q p (slice_cmp (λ left right. word_order right left) [] (next ∷ qs)) (slice_cmp word_order (next ∷ qs) []) (λ e. final-not_inner p q are also.0 (sym e))
turned_pieces (p ∷ next ∷ ps) (q ∷ []) are also =
    first_decides q p (slice_cmp (λ left right. word_order right left) (next ∷ ps) []) (slice_cmp word_order [] (next ∷ ps)) (final-not_inner q p also are.0)
turned_pieces (p ∷ next ∷ ps) (q ∷ other ∷ qs) are also = ap (ordering_then (word_order q p)) (turned_pieces (next ∷ ps) (other ∷ qs) are.1 also.1)

-- From either side the pieces of texts compare as the texts.
pub bytes_along : (side : Side) (one two : List ℕ) → IsText one → IsText two → slice_cmp (along side) (pieces one) (pieces two) ≡ along_bytes side one two
bytes_along Above one two p q = order-pieces one two p q
bytes_along Below one two p q = turned_pieces (pieces one) (pieces two) (pieces_are one p) (pieces_are two q) ∙ order-pieces two one q p

-- So a tail is met from the rest of a key behind a piece as the code tells it, by the bytes of both.
pub met_along : (look : Look) (world : World) (rest held : List ℕ) → IsText rest → IsText held → {met : Bool} →
    met ≡ is_beyond look.itself (along_bytes look.side (take (length rest - 8) (drop 8 rest)) held) → meets look world (pieces (drop 8 rest)) (pieces held) ≡ met
met_along look world rest held one two is =
    ap (is_beyond look.itself) (bytes_along look.side (drop 8 rest) held (text-drop 8 rest one) two)
    ∙ ap (λ bytes. is_beyond look.itself (along_bytes look.side bytes held)) (sym (take_rest rest 8))
    ∙ sym is
