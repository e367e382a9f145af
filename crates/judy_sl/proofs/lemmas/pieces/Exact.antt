-- Bytes that have the pieces of a key, and don't end in a zero, are that key.
use Rattle.std.proofs.Common.{◌≡◌, ◌≢◌, ℕ, zero, suc, ◌+◌, ◌*◌, ◌-◌, ◌^◌, ◌<◌, ◌≤◌, ⊎_elim, List, [], ◌∷◌, length, drop, get_or, Some, refl, sym, ap, subst, ◌∙◌, arith}
use Rattle.std.proofs.lemmas.Bool.{cases_eq, cases_order, cases_lt}
use Rattle.std.proofs.lemmas.List.{length-drop, drop_all}
use Rattle.std.proofs.lemmas.Option.{none-some, slice_get-get_or, slice_get_past}
use Rattle.std.specs.Prelude.{slice_get}
use Rattle.std.proofs.lemmas.List.Elements.{All-head, All-tail}
use Rattle.judy_records.specs.Texts.{spelled}
use Rattle.judy_records.proofs.OrderLemmas.{spelled-some, below_high}
use Rattle.judy_sl.specs.Pieces.{piece_of, pieces, IsText, SpellKey, EndsWell}
use Rattle.judy_records.proofs.Spelling.{spelled-below}
use Rattle.judy_sl.proofs.lemmas.pieces.Ways.{pieces_short, pieces_long}
use Rattle.judy_sl.proofs.lemmas.pieces.OnWay.{pieces-some}
use Rattle.judy_sl.proofs.lemmas.pieces.PieceLemmas.{text_of_key, text-drop, spelled-lt}
use Rattle.judy_sl.specs.Strings.{IsString}

-- ---- the last byte

abbrev Ends : List ℕ → Type 0
Ends [] = Unit {0}
Ends (byte ∷ []) = byte ≢ 0
Ends (byte ∷ next ∷ rest) = Ends (next ∷ rest)

ends_from : (bytes : List ℕ) → ((k : ℕ) → length bytes ≡ suc k → get_or bytes k 0 ≢ 0) → Ends bytes
ends_from [] last = tt
ends_from (byte ∷ []) last = last 0 refl
ends_from (byte ∷ next ∷ rest) last = ends_from (next ∷ rest) (λ k e. last (suc k) (ap (λ n. suc n) e))

ends-well : (bytes : List ℕ) → EndsWell bytes → Ends bytes
ends-well bytes well = ends_from bytes (λ k e zero_byte.
    let at : length bytes - 1 ≡ k = omega arith in
    well (ap (slice_get bytes) at ∙ slice_get-get_or bytes k 0 (omega arith) ∙ ap (λ byte. Some byte) zero_byte))

-- A text ends well.
pub ends-text : (bytes : List ℕ) → IsText bytes → EndsWell bytes
ends-text bytes text last = ⊎_elim
    (λ inside. (text (length bytes - 1) 0 inside).1 (some-same (sym (slice_get-get_or bytes (length bytes - 1) 0 inside) ∙ last)))
    (λ past. none-some 0 (sym (slice_get_past bytes (length bytes - 1) past) ∙ last))
    (cases_lt (length bytes - 1) (length bytes))
  where
    some-same : {a b : ℕ} → Some a ≡ Some b → a ≡ b
    some-same e = cc

ends-tail : (byte : ℕ) (bytes : List ℕ) → Ends (byte ∷ bytes) → Ends bytes
ends-tail byte [] ends = tt
ends-tail byte (next ∷ rest) ends = ends

ends-drop : (count : ℕ) (bytes : List ℕ) → Ends bytes → Ends (drop count bytes)
ends-drop zero bytes ends = ends
ends-drop (suc count) [] ends = tt
ends-drop (suc count) (byte ∷ bytes) ends = ends-drop count bytes (ends-tail byte bytes ends)

-- ---- each of them a byte

abbrev pub AreBytes : List ℕ → Type 0
AreBytes bytes = (k : ℕ) → get_or bytes k 0 < 256

bytes-drop : (count : ℕ) (bytes : List ℕ) → AreBytes bytes → AreBytes (drop count bytes)
bytes-drop zero bytes small = small
bytes-drop (suc count) [] small = small
bytes-drop (suc count) (byte ∷ bytes) small = bytes-drop count bytes (λ k. small (suc k))

-- ---- the number that bytes spell

-- Of two numbers below a unit, and what stands above them.
apart : (unit left right low other : ℕ) → low < unit → other < unit → left * unit + low ≡ right * unit + other → (left ≡ right) × (low ≡ other)
apart unit left right low other p q e = ⊎_elim
    (λ same. (same, let both : left * unit ≡ right * unit = ap (λ n. n * unit) same in omega arith))
    (λ differ. ⊎_elim
    (λ less. let gap = below_high unit left right low other p less in absurd (omega arith))
    (λ more. let gap = below_high unit right left other low q more in absurd (omega arith))
    differ)
    (cases_order left right)

spelled-nil : (width : ℕ) → spelled width [] ≡ 0
spelled-nil zero = refl
spelled-nil (suc width) = refl

nil-cons : (byte : ℕ) (bytes : List ℕ) → [] ≢ byte ∷ bytes
nil-cons byte bytes e = cc

-- The bytes of a text that a number spells, and what follows them, are these bytes.
same_spelled : (width : ℕ) (one two : List ℕ) → IsText one → AreBytes two → Ends two → spelled width one ≡ spelled width two → drop width one ≡ drop width two → one ≡ two
same_spelled zero one two text small ends spells rest = rest
same_spelled (suc width) [] [] text small ends spells rest = refl
same_spelled (suc width) [] (y ∷ []) text small ends spells rest = let some = spelled-some width y [] ends in absurd (omega arith)
same_spelled (suc width) [] (y ∷ z ∷ zs) text small ends spells rest = ⊎_elim
    (λ none.
    let above : y * 256 ^ width ≡ 0 * 256 ^ width = ap (λ n. n * 256 ^ width) none in
    let later : spelled width [] ≡ spelled width (z ∷ zs) = (let nil = spelled-nil width in omega arith) in
    absurd (nil-cons z zs (same_spelled width [] (z ∷ zs) text (λ k. small (suc k)) ends later (drop_all width [] (omega arith) ∙ rest))))
    (λ some. let more = spelled-some width y (z ∷ zs) some in absurd (omega arith))
    (cases_eq y 0)
same_spelled (suc width) (x ∷ xs) [] text small ends spells rest =
    let some = spelled-some width x xs (All-head (λ b. (b < 256) × (b ≢ 0)) x xs text).1 in absurd (omega arith)
same_spelled (suc width) (x ∷ xs) (y ∷ ys) text small ends spells rest =
    let later = All-tail (λ b. (b < 256) × (b ≢ 0)) x xs text in
    let parts = apart (256 ^ width) x y (spelled width xs) (spelled width ys) (spelled-lt width xs later) (spelled-below width ys (λ k. small (suc k))) spells in
    (λ t. parts.0 t ∷ same_spelled width xs ys later (λ k. small (suc k)) (ends-tail y ys ends) parts.1 rest t)

same_piece : (one two : List ℕ) → IsText one → AreBytes two → Ends two → piece_of one ≡ piece_of two → drop 8 one ≡ drop 8 two → one ≡ two
unfolding piece_of
same_piece one two text small ends spells rest = same_spelled 8 one two text small ends spells rest

-- ---- pieces

heads : (p q : ℕ) (ps qs : List ℕ) → p ∷ ps ≡ q ∷ qs → (p ≡ q) × (ps ≡ qs)
heads p q ps qs e = ((let head : p ≡ q = cc in head), (let more : ps ≡ qs = cc in more))

module _ (one two : List ℕ) (text : IsText one) (small : AreBytes two) (ends : Ends two) where
  same_step : (8 ≤ length one → pieces (drop 8 one) ≡ pieces (drop 8 two) → drop 8 one ≡ drop 8 two) → pieces one ≡ pieces two → one ≡ two
  same_step further same = ⊎_elim
      (λ short. ⊎_elim
      (λ also.
      let first = heads (piece_of one) (piece_of two) [] [] (sym (pieces_short one short) ∙ same ∙ pieces_short two also) in
      same_piece one two text small ends first.0 (drop_all 8 one (omega arith) ∙ sym (drop_all 8 two (omega arith))))
      (λ long.
      let first = heads (piece_of one) (piece_of two) [] (pieces (drop 8 two)) (sym (pieces_short one short) ∙ same ∙ pieces_long two long) in
      absurd (pieces-some (drop 8 two) (sym first.1)))
      (cases_lt (length two) 8))
      (λ long. ⊎_elim
      (λ short.
      let first = heads (piece_of one) (piece_of two) (pieces (drop 8 one)) [] (sym (pieces_long one long) ∙ same ∙ pieces_short two short) in
      absurd (pieces-some (drop 8 one) first.1))
      (λ also.
      let first = heads (piece_of one) (piece_of two) (pieces (drop 8 one)) (pieces (drop 8 two)) (sym (pieces_long one long) ∙ same ∙ pieces_long two also) in
      same_piece one two text small ends first.0 (further long first.1))
      (cases_lt (length two) 8))
      (cases_lt (length one) 8)

same_pieces : (most : ℕ) (one two : List ℕ) → length one ≤ most → IsText one → AreBytes two → Ends two → pieces one ≡ pieces two → one ≡ two
same_pieces zero one two within text small ends same = same_step one two text small ends (λ long later. let never : ⊥ = omega arith in absurd never) same
same_pieces (suc less) one two within text small ends same =
    let left = length-drop 8 one in
    same_step one two text small ends (λ long later. same_pieces less (drop 8 one) (drop 8 two) (omega arith) (text-drop 8 one text) (bytes-drop 8 two small) (ends-drop 8 two ends) later) same

-- The pieces of a key are those of the key alone.
pub exact : (bytes : List ℕ) → AreBytes bytes → EndsWell bytes → SpellKey (pieces bytes) → IsString bytes
exact bytes small ends spelled =
    subst IsString (same_pieces (length spelled.key) spelled.key bytes (omega arith) (text_of_key spelled.key spelled.is_key) small (ends-well bytes ends) spelled.spells) spelled.is_key
