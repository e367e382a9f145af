-- How many bytes a text shares with others, a piece at a time.
use Rattle.std.proofs.Common.{◌≡◌, ◌≢◌, ℕ, zero, suc, ◌+◌, ◌<◌, ◌≤◌, ◌==◌, Bool, true, false, cond, ◌⊎◌, ⊎_elim, List, [], ◌∷◌, length, take, drop, get_or, refl, sym, ap, ◌∙◌, arith}
use Rattle.std.specs.Int.{to_be_bytes, w64}
use Rattle.std.proofs.lemmas.Bool.{cases_lt, cases_eq, eq-eqb, ne_eqb}
use Rattle.std.proofs.lemmas.List.{length-take, length-take-le, get_or_past, get_or_append_left, get_or-take, drop_all, drop_more, nil_from_length}
use Rattle.std.proofs.lemmas.List.Elements.{All-get_or}
use Rattle.std.proofs.lemmas.Grind.{same_number_lists}
use Rattle.judy_model.specs.DumpText.{shared_length}
use Rattle.judy_model.specs.Keys.{IsByteString}
use Rattle.judy_model.specs.WordBytes.{low_bytes}
use Rattle.judy_model.proofs.lemmas.orders.ByteLemmas.{length-low_bytes}
use Rattle.judy_records.specs.Texts.{first_word, words_of}
use Rattle.judy_records.proofs.BackLemmas.{be-low_bytes}
use Rattle.judy_records.proofs.PadLemmas.{bytes_of, padded}
use Rattle.judy_records.proofs.OrderLemmas.{text-bytes}
use Rattle.judy_records.proofs.TextLemmas.{words-cons}
use Rattle.judy_sl.specs.Pieces.{piece_of, IsText, IsInner}
use Rattle.judy_sl.proofs.lemmas.readers.TextSteps.{inner_long}

-- ---- what two strings share

pub shared_ended : (n : ℕ) (key bytes : List ℕ) → length key ≤ n → shared_length (drop n key) (drop n bytes) ≡ 0
shared_ended n key bytes past = ap (λ left. shared_length left (drop n bytes)) (drop_all n key past)

module _ (n : ℕ) (key bytes : List ℕ) (inside : n < length key) (also : n < length bytes) where
  shared_at : shared_length (drop n key) (drop n bytes) ≡ cond (get_or key n 0 == get_or bytes n 0) (suc (shared_length (drop (n + 1) key) (drop (n + 1) bytes))) 0
  shared_at = λ t. shared_length (drop_more key n 0 inside t) (drop_more bytes n 0 also t)

  pub shared_parts : get_or key n 0 ≢ get_or bytes n 0 → shared_length (drop n key) (drop n bytes) ≡ 0
  shared_parts differ = shared_at ∙ ap (λ (b : Bool). cond b (suc (shared_length (drop (n + 1) key) (drop (n + 1) bytes))) 0) (ne_eqb (get_or key n 0) (get_or bytes n 0) differ)

  pub shared_on : get_or key n 0 ≡ get_or bytes n 0 → shared_length (drop n key) (drop n bytes) ≡ suc (shared_length (drop (n + 1) key) (drop (n + 1) bytes))
  shared_on same = shared_at ∙ ap (λ (b : Bool). cond b (suc (shared_length (drop (n + 1) key) (drop (n + 1) bytes))) 0) (eq-eqb (get_or key n 0) (get_or bytes n 0) same)

-- Less is shared than the front of a string has: then that is all. Else what is shared goes on behind it.
pub shared_front : (count : ℕ) (key bytes : List ℕ) → shared_length (take count key) bytes < count → shared_length key bytes ≡ shared_length (take count key) bytes
shared_front zero key bytes less = absurd (let never : ⊥ = omega (arith, less) in never)
shared_front (suc count) [] bytes less = refl
shared_front (suc count) (k ∷ key) [] less = refl
shared_front (suc count) (k ∷ key) (b ∷ bytes) less = by (k == b) less (λ fewer. shared_front count key bytes fewer)
  where
    by : (test : Bool) → cond test (suc (shared_length (take count key) bytes)) 0 < suc count →
        (shared_length (take count key) bytes < count → shared_length key bytes ≡ shared_length (take count key) bytes) →
        cond test (suc (shared_length key bytes)) 0 ≡ cond test (suc (shared_length (take count key) bytes)) 0
    by true less rest = ap suc (rest (omega (arith, less)))
    by false less rest = refl

pub record IsWholeFront (count : ℕ) (key bytes : List ℕ) : Type 0 where
  pub long : count ≤ length key
  pub also : count ≤ length bytes
  pub on : shared_length key bytes ≡ count + shared_length (drop count key) (drop count bytes)

pub shared_whole : (count : ℕ) (key bytes : List ℕ) → count ≤ shared_length (take count key) bytes → IsWholeFront count key bytes
shared_whole zero key bytes all = record { long = omega arith; also = omega arith; on = omega arith }
shared_whole (suc count) [] bytes all = absurd (let never : ⊥ = omega (arith, all) in never)
shared_whole (suc count) (k ∷ key) [] all = absurd (let never : ⊥ = omega (arith, all) in never)
shared_whole (suc count) (k ∷ key) (b ∷ bytes) all = by (k == b) refl all (λ more. shared_whole count key bytes more)
  where
    by : (test : Bool) → (k == b) ≡ test → suc count ≤ cond test (suc (shared_length (take count key) bytes)) 0 →
        (count ≤ shared_length (take count key) bytes → IsWholeFront count key bytes) → IsWholeFront (suc count) (k ∷ key) (b ∷ bytes)
    by true same all more =
        let rest = more (omega (arith, all)) in
        let long = rest.long in
        let also = rest.also in
        let on = rest.on in
        let first = ap (λ (b : Bool). cond b (suc (shared_length key bytes)) 0) same in
        record { long = omega (arith, long); also = omega (arith, also); on = omega (arith, first, on) }
    by false same all more = absurd (let never : ⊥ = omega (arith, all) in never)

-- No more is shared than a string has.
pub shared_most : (key bytes : List ℕ) → shared_length key bytes ≤ length key
shared_most [] bytes = omega arith
shared_most (k ∷ key) [] = omega arith
shared_most (k ∷ key) (b ∷ bytes) = by (k == b) (shared_most key bytes)
  where
    by : (test : Bool) → shared_length key bytes ≤ length key → cond test (suc (shared_length key bytes)) 0 ≤ suc (length key)
    by true rest = omega (arith, rest)
    by false rest = omega arith

-- A front of bytes shares all that it has with them.
pub shared_own : (count : ℕ) (bytes : List ℕ) → count ≤ length bytes → shared_length (take count bytes) bytes ≡ count
shared_own zero bytes within = refl
shared_own (suc count) [] within = absurd (let never : ⊥ = omega (arith, within) in never)
shared_own (suc count) (b ∷ bytes) within =
    ap (λ (test : Bool). cond test (suc (shared_length (take count bytes) bytes)) 0) (eq-eqb b b refl) ∙ ap suc (shared_own count bytes (omega (arith, within)))

-- ---- the bytes of a piece

-- Those of zero are zeros.
zero_low : (width at : ℕ) → get_or (low_bytes width 0) at 0 ≡ 0
zero_low zero at = refl
zero_low (suc width) zero = grind arith
zero_low (suc width) (suc at) = zero_low width at

-- A byte of the first piece of bytes is the byte at that place, zero past their end.
pub piece_at : (bytes : List ℕ) → IsByteString bytes → (at : ℕ) → at < 8 → get_or (low_bytes 8 (piece_of bytes)) at 0 ≡ get_or bytes at 0
unfolding piece_of first_word
piece_at bytes are at within = ⊎_elim
    (λ (some : 0 < length bytes).
    let long = length-low_bytes 8 (first_word bytes) in
    sym (ap (λ words. get_or (bytes_of words) at 0) (words-cons bytes some)
    ∙ get_or_append_left (low_bytes 8 (first_word bytes)) (bytes_of (words_of (drop 8 bytes))) 0 at (omega (arith, within, long)))
    ∙ padded bytes are at)
    (λ (none : length bytes ≤ 0).
    let nothing = nil_from_length bytes (omega (arith, none)) in
    ap (λ left. get_or (low_bytes 8 (piece_of left)) at 0) nothing ∙ zero_low 8 at ∙ ap (λ (left : List ℕ). get_or left at 0) (sym nothing))
    (cases_lt 0 (length bytes))

pub be_at : (bytes : List ℕ) → IsByteString bytes → (piece : ℕ) → piece ≡ piece_of bytes → (at : ℕ) → at < 8 → get_or (to_be_bytes w64 piece) at 0 ≡ get_or bytes at 0
be_at bytes are piece is at within = ap (λ low. get_or low at 0) (be-low_bytes piece ∙ ap (low_bytes 8) is) ∙ piece_at bytes are at within

-- Where whole pieces are the same, all eight bytes are.
pub same_whole : (text bytes : List ℕ) → IsText text → IsByteString bytes → 8 ≤ length bytes → piece_of text ≡ piece_of bytes → IsInner (piece_of text) → shared_length (take 8 text) bytes ≡ 8
same_whole text bytes is are within same inner =
    let long = inner_long text is inner in
    let one = length-take-le 8 text long in
    let other = length-take-le 8 bytes within in
    let alike : take 8 text ≡ take 8 bytes = same_number_lists (take 8 text) (take 8 bytes) (omega (arith, one, other)) (λ at less.
    let few : at < 8 = omega (arith, less, one) in
    get_or-take 8 text at 0 few
    ∙ sym (piece_at text (text-bytes text is) at few)
    ∙ ap (λ piece. get_or (low_bytes 8 piece) at 0) same
    ∙ piece_at bytes are at few
    ∙ sym (get_or-take 8 bytes at 0 few)) in
    ap (λ front. shared_length front bytes) alike ∙ shared_own 8 bytes within

module _ (text bytes : List ℕ) (is : IsText text) (piece : ℕ) (first : piece ≡ piece_of text) (at : ℕ) (few : at < 8) (inside : at < length bytes) where
  its_byte : get_or (to_be_bytes w64 piece) at 0 ≡ get_or text at 0
  its_byte = be_at text (text-bytes text is) piece first at few

  front-at : get_or (take 8 text) at 0 ≡ get_or (to_be_bytes w64 piece) at 0
  front-at = get_or-take 8 text at 0 few ∙ sym its_byte

  front-long : at < length text → at < length (take 8 text)
  front-long within = let long = length-take 8 text in omega (arith, long, within, few)

  -- A zero byte stands behind the text.
  pub zero_past : get_or (to_be_bytes w64 piece) at 0 ≡ 0 → length text ≤ at
  zero_past none = ⊎_elim
      (λ (within : at < length text). absurd ((All-get_or (λ b. (b < 256) × (b ≢ 0)) text at 0 within is).1 (sym its_byte ∙ none)))
      (λ past. past)
      (cases_lt at (length text))

  pub stops : (get_or (to_be_bytes w64 piece) at 0 ≡ 0) ⊎ (get_or (to_be_bytes w64 piece) at 0 ≢ get_or bytes at 0) → shared_length (drop at (take 8 text)) (drop at bytes) ≡ 0
  stops why = ⊎_elim
      (λ (within : at < length text). ⊎_elim
      (λ none. absurd (let never : ⊥ = omega (arith, zero_past none, within) in never))
      (λ differ. shared_parts at (take 8 text) bytes (front-long within) inside (λ same. differ (sym front-at ∙ same)))
      why)
      (λ (past : length text ≤ at). shared_ended at (take 8 text) bytes (let long = length-take 8 text in omega (arith, long, past)))
      (cases_lt at (length text))

  module _ (some : get_or (to_be_bytes w64 piece) at 0 ≢ 0) (same : get_or (to_be_bytes w64 piece) at 0 ≡ get_or bytes at 0) where
    pub still_within : at < length text
    still_within = ⊎_elim
        (λ within. within)
        (λ (past : length text ≤ at). absurd (some (its_byte ∙ get_or_past text at 0 past)))
        (cases_lt at (length text))

    pub goes_on : shared_length (drop at (take 8 text)) (drop at bytes) ≡ suc (shared_length (drop (at + 1) (take 8 text)) (drop (at + 1) bytes))
    goes_on = shared_on at (take 8 text) bytes (front-long still_within) inside (front-at ∙ same)

-- ---- a whole piece

-- A text ends where the piece in which it parts from bytes has a zero byte.
pub ends_there : (text bytes : List ℕ) → IsText text → (piece : ℕ) → piece ≡ piece_of text → (same : ℕ) → same ≡ shared_length text bytes → same < 8 →
    (get_or (to_be_bytes w64 piece) same 0 == 0) ≡ (shared_length text bytes == length text)
ends_there text bytes is piece first same shared few =
    let byte = be_at text (text-bytes text is) piece first same few in
    let most = shared_most text bytes in
    ⊎_elim
    (λ (within : same < length text).
    let some = (All-get_or (λ b. (b < 256) × (b ≢ 0)) text same 0 within is).1 in
    ne_eqb (get_or (to_be_bytes w64 piece) same 0) 0 (λ none. some (sym byte ∙ none))
    ∙ sym (ne_eqb (shared_length text bytes) (length text) (λ whole. let never : ⊥ = omega (arith, whole, shared, within) in never)))
    (λ (past : length text ≤ same).
    eq-eqb (get_or (to_be_bytes w64 piece) same 0) 0 (byte ∙ get_or_past text same 0 past)
    ∙ sym (eq-eqb (shared_length text bytes) (length text) (omega (arith, past, shared, most))))
    (cases_lt same (length text))

-- Behind a whole piece that is shared it ends where its rest does.
pub ends_behind : (one two less other : ℕ) → one ≡ 8 + less → two ≡ 8 + other → (one == two) ≡ (less == other)
ends_behind one two less other p q = ⊎_elim
    (λ same. eq-eqb one two (omega (arith, same, p, q)) ∙ sym (eq-eqb less other same))
    (λ apart. ne_eqb one two (λ same. apart (omega (arith, same, p, q))) ∙ sym (ne_eqb less other apart))
    (cases_eq less other)
