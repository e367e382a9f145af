-- One record as a tail.
use Rattle.std.proofs.Common.{◌≡◌, ◌≢◌, ◌+◌, ◌*◌, ◌<◌, ◌%◌, ◌/◌, ◌^◌, ◌≤◌, ◌-◌, ℕ, zero, suc, List, [], ◌∷◌, ◌++◌, length, take, drop, get_or, true, false, nat_lt, cond, sym, refl}
use Rattle.std.proofs.Common.{ap, ◌∙◌, subst, arith}
use Rattle.std.specs.List.{flat_map, filter}
use Rattle.std.specs.Int.{to_be_bytes, w64}
use Rattle.std.proofs.lemmas.Bool.{ltb-true, lt-ltb}
use Rattle.std.proofs.lemmas.Grind.{flat_map-append}
use Rattle.std.proofs.lemmas.Nat.{mod_below, div-mul-add, pow-add}
use Rattle.std.proofs.Math.Nat.{mod-eq_of_lt, mul_assoc, mul-add-mod_self_right}
use Rattle.std.proofs.lemmas.List.{take_more, take_all, length-append, take-append-drop, append-nil, get_or_default}
use Rattle.std.proofs.lemmas.List.Elements.{All-nil, All-cons, All-head, All-tail, All-append, filter-append}
use Rattle.judy_model.proofs.lemmas.queries.Places.{length-filter-le}
use Rattle.judy_model.specs.Keys.{IsByteString, byte_order}
use Rattle.judy_model.specs.WordBytes.{low_bytes}
use Rattle.judy_records.specs.Texts.{spelled, first_word, words_for, words_of, text_in, EndsWell, IsText}
use Rattle.judy_records.specs.Spots.{Spot, free, held, text_of}
use Rattle.judy_records.proofs.BackLemmas.{be-low_bytes}
use Rattle.judy_records.proofs.OrderLemmas.{order-words, text-bytes, spelled-lt, all-drop}
use Rattle.judy_records.proofs.PadLemmas.{same-ends, text-ends, full-word}
use Rattle.judy_records.proofs.TextLemmas.{length-words, words-at}
use Rattle.judy_model.proofs.lemmas.orders.ByteLemmas.{length-low_bytes, low_bytes-above, unit_pos}
use Rattle.judy_tails.specs.Inside.{IsPadded, BeginsText}

-- ---- the text that words spell is one

low-are : (width word : ℕ) → IsByteString (low_bytes width word)
low-are zero word = All-nil (λ byte. byte < 256)
low-are (suc width) word = All-cons (λ byte. byte < 256) (word / 256 ^ width % 256) (low_bytes width word) (mod_below (word / 256 ^ width) 256 (omega arith)) (low-are width word)

bytes-are : (words : List ℕ) → IsByteString (flat_map (λ word. low_bytes 8 word) words)
bytes-are [] = All-nil (λ byte. byte < 256)
bytes-are (word ∷ words) = All-append (λ byte. byte < 256) (low_bytes 8 word) (flat_map (λ word. low_bytes 8 word) words) (low-are 8 word) (bytes-are words)

left-are : (bytes : List ℕ) → IsByteString bytes → IsText (filter (λ byte. nat_lt 0 byte) bytes)
left-are [] are = All-nil (λ byte. (byte < 256) × (byte ≢ 0))
left-are (byte ∷ bytes) are =
    let rest = left-are bytes (All-tail (λ byte. byte < 256) byte bytes are) in
    elim (nat_lt 0 byte) as (λ b. nat_lt 0 byte ≡ b → IsText (cond b (byte ∷ filter (λ byte. nat_lt 0 byte) bytes) (filter (λ byte. nat_lt 0 byte) bytes))) [
      | true ↦ λ some. All-cons (λ byte. (byte < 256) × (byte ≢ 0)) byte _ (
        All-head (λ byte. byte < 256) byte bytes are,
        λ none. absurd (let more = ltb-true 0 byte some in omega (arith, more, none)),
      ) rest
      | false ↦ λ none. rest
    ] refl

pub is-text : (words : List ℕ) → IsText (text_in words)
unfolding text_in
is-text words = left-are (flat_map (λ word. low_bytes 8 word) words) (bytes-are words)

-- What no program's bytes exceed.
pub are-bytes : (bytes : List ℕ) → ((at : ℕ) → get_or bytes at 0 < 256) → IsByteString bytes
are-bytes bytes below at default inside = subst (λ byte. byte < 256) (get_or_default bytes at 0 default inside) (below at)

-- ---- a whole record

pub whole-is : (spot : Spot) → IsPadded spot → text_of spot ≡ words_of (text_in (text_of spot))
whole-is (free next) whole = absurd whole
whole-is (held value words) whole = whole

module _ (spot : Spot) (whole : IsPadded spot) where
  pub whole-words : text_of spot ≡ words_of (text_in (text_of spot))
  whole-words = whole-is spot whole

  -- Its text is that of the bytes where its words are theirs, and only there.
  pub whole-same : (bytes : List ℕ) → IsByteString bytes → EndsWell bytes → text_of spot ≡ words_of bytes → text_in (text_of spot) ≡ bytes
  whole-same bytes are ends same =
      let text = is-text (text_of spot) in
      same-ends (text_in (text_of spot)) bytes (text-bytes (text_in (text_of spot)) text) are (text-ends (text_in (text_of spot)) text) ends (sym whole-words ∙ same)

  pub same-whole : (bytes : List ℕ) → text_in (text_of spot) ≡ bytes → text_of spot ≡ words_of bytes
  same-whole bytes same = whole-words ∙ ap words_of same

  -- It compares as its words do.
  pub whole-order : (text : List ℕ) → IsText text → byte_order (text_of spot) (words_of text) ≡ byte_order (text_in (text_of spot)) text
  whole-order text is = ap (λ words. byte_order words (words_of text)) whole-words ∙ order-words (text_in (text_of spot)) text (is-text (text_of spot)) is

  -- None of the bytes of a word is zero where the last one isn't.
  pub whole-full : (at : ℕ) → at < length (text_of spot) → get_or (text_of spot) at 0 % 256 ≢ 0 → length (text_in (get_or (text_of spot) at 0 ∷ [])) ≡ 8
  whole-full at inside some =
      let text = text_in (text_of spot) in
      let long = length-words (words_for (length text)) text in
      let same = ap (λ words. get_or words at 0) whole-words in
      let full = full-word text (is-text (text_of spot)) at (omega (arith, inside, long, ap length whole-words)) (subst (λ n. n % 256 ≢ 0) same some) in
      ap (λ n. length (text_in (n ∷ []))) same ∙ ap length full ∙ length-low_bytes 8 (get_or (words_of text) at 0)

  -- Some text begins with each of its words.
  pub whole-begins : (at : ℕ) → at < length (text_of spot) → BeginsText (get_or (text_of spot) at 0)
  whole-begins at inside =
      let text = text_in (text_of spot) in
      let long = length-words (words_for (length text)) text in (
        drop (8 * at) text,
        all-drop (λ byte. (byte < 256) × (byte ≢ 0)) (8 * at) text (is-text (text_of spot)),
        ap (λ words. get_or words at 0) whole-words ∙ words-at (words_for (length text)) at text (omega (arith, inside, long, ap length whole-words)),
      )

-- ---- the bytes of its words, one after the other

-- Those of one word more.
text-append : (words more : List ℕ) → text_in (words ++ more) ≡ text_in words ++ text_in more
unfolding text_in
text-append words more =
    ap (filter (λ byte. nat_lt 0 byte)) (flat_map-append (λ word. low_bytes 8 word) words more)
    ∙ filter-append (λ byte. nat_lt 0 byte) (flat_map (λ word. low_bytes 8 word) words) (flat_map (λ word. low_bytes 8 word) more)

pub text-none : text_in [] ≡ []
unfolding text_in
text-none = refl

pub text-more : (words : List ℕ) (at : ℕ) → at < length words → text_in (take (at + 1) words) ≡ text_in (take at words) ++ text_in (get_or words at 0 ∷ [])
text-more words at inside = ap text_in (take_more words at 0 inside) ∙ text-append (take at words) (get_or words at 0 ∷ [])

-- They are no more than all.
pub text-within : (words : List ℕ) (at : ℕ) → at < length words → length (text_in (take at words)) + length (text_in (get_or words at 0 ∷ [])) ≤ length (text_in words)
text-within words at inside =
    let whole = ap (λ all. length (text_in all)) (sym (take-append-drop (at + 1) words)) ∙ ap length (text-append (take (at + 1) words) (drop (at + 1) words)) in
    let front = ap length (text-more words at inside) in
    let one = length-append (text_in (take at words)) (text_in (get_or words at 0 ∷ [])) in
    let parts = length-append (text_in (take (at + 1) words)) (text_in (drop (at + 1) words)) in
    omega (arith, whole, front, one, parts)

-- ---- the bytes of one word, one after the other

-- Those of the first so many that aren't zero.
abbrev pub kept : ℕ → List ℕ → List ℕ
kept count bytes = filter (λ byte. nat_lt 0 byte) (take count bytes)

module _ (bytes : List ℕ) (at : ℕ) (inside : at < length bytes) where
  one-more : kept (at + 1) bytes ≡ kept at bytes ++ filter (λ byte. nat_lt 0 byte) (get_or bytes at 0 ∷ [])
  one-more =
      ap (filter (λ byte. nat_lt 0 byte)) (take_more bytes at 0 inside)
      ∙ filter-append (λ byte. nat_lt 0 byte) (take at bytes) (get_or bytes at 0 ∷ [])

  pub kept-some : get_or bytes at 0 ≢ 0 → kept (at + 1) bytes ≡ kept at bytes ++ get_or bytes at 0 ∷ []
  kept-some some = one-more ∙ ap (λ b. kept at bytes ++ cond b (get_or bytes at 0 ∷ []) []) (lt-ltb 0 (get_or bytes at 0) (omega (arith, some)))

-- Of zero none is kept.
zero-kept : (width at : ℕ) → kept at (low_bytes width 0) ≡ []
zero-kept zero zero = refl
zero-kept zero (suc at) = refl
zero-kept (suc width) zero = refl
zero-kept (suc width) (suc at) =
    let first : 0 / 256 ^ width % 256 ≡ 0 = grind arith in
    ap (λ byte. cond (nat_lt 0 byte) (byte ∷ kept at (low_bytes width 0)) (kept at (low_bytes width 0))) first ∙ zero-kept width at

zero-all : (width : ℕ) → filter (λ byte. nat_lt 0 byte) (low_bytes width 0) ≡ []
zero-all width = ap (filter (λ byte. nat_lt 0 byte)) (sym (take_all width (low_bytes width 0) (let long = length-low_bytes width 0 in omega (arith, long)))) ∙ zero-kept width width

-- Behind the first zero byte of the word with which a text begins none is kept.
kept-before : (width at : ℕ) (text : List ℕ) → IsText text → at < width → get_or (low_bytes width (spelled width text)) at 0 ≡ 0
    → kept at (low_bytes width (spelled width text)) ≡ filter (λ byte. nat_lt 0 byte) (low_bytes width (spelled width text))
kept-before zero at text is inside none = absurd (omega (arith, inside))
kept-before (suc width) at [] is inside none = zero-kept (suc width) at ∙ sym (zero-all (suc width))
kept-before (suc width) zero (byte ∷ text) is inside none =
    let here = All-head (λ b. (b < 256) × (b ≢ 0)) byte text is in
    let later = All-tail (λ b. (b < 256) × (b ≢ 0)) byte text is in
    let first : (byte * 256 ^ width + spelled width text) / 256 ^ width % 256 ≡ byte = ap (λ n. n % 256)
    (div-mul-add byte (256 ^ width) (spelled width text) (spelled-lt width text (text-bytes text later))) ∙ mod-eq_of_lt here.0 in
    absurd (here.1 (sym first ∙ none))
kept-before (suc width) (suc at) (byte ∷ text) is inside none =
    let later = All-tail (λ b. (b < 256) × (b ≢ 0)) byte text is in
    let above = low_bytes-above width byte (spelled width text) in
    let rest = kept-before width at text later (omega (arith, inside)) (sym (ap (λ low. get_or low at 0) above) ∙ none) in
    let first = (byte * 256 ^ width + spelled width text) / 256 ^ width % 256 in
    ap (λ left. cond (nat_lt 0 first) (first ∷ left) left) (ap (kept at) above ∙ rest ∙ sym (ap (filter (λ b. nat_lt 0 b)) above))

-- So all of its text stands before that.
pub text-before : (word at : ℕ) (bytes : List ℕ) → bytes ≡ to_be_bytes w64 word → BeginsText word → at < 8 → get_or bytes at 0 ≡ 0 → kept at bytes ≡ filter (λ byte. nat_lt 0 byte) bytes
unfolding first_word
text-before word at bytes is (text, are, begins) inside none =
    let low : bytes ≡ low_bytes 8 (spelled 8 text) = is ∙ be-low_bytes word ∙ ap (low_bytes 8) begins in
    ap (kept at) low ∙ kept-before 8 at text are inside (sym (ap (λ bytes. get_or bytes at 0) low) ∙ none) ∙ sym (ap (filter (λ byte. nat_lt 0 byte)) low)

-- From the first zero byte of the word with which a text begins on, all are zero.
none-behind : (width at : ℕ) (text : List ℕ) → IsText text → at < width → get_or (low_bytes width (spelled width text)) at 0 ≡ 0 → spelled width text % 256 ^ (width - at) ≡ 0
none-behind zero at text is inside none = absurd (omega (arith, inside))
none-behind (suc width) at [] is inside none = mod-eq_of_lt (unit_pos (suc width - at))
none-behind (suc width) zero (byte ∷ text) is inside none =
    let here = All-head (λ b. (b < 256) × (b ≢ 0)) byte text is in
    let later = All-tail (λ b. (b < 256) × (b ≢ 0)) byte text is in
    let first : (byte * 256 ^ width + spelled width text) / 256 ^ width % 256 ≡ byte = ap (λ n. n % 256)
    (div-mul-add byte (256 ^ width) (spelled width text) (spelled-lt width text (text-bytes text later))) ∙ mod-eq_of_lt here.0 in
    absurd (here.1 (sym first ∙ none))
none-behind (suc width) (suc at) (byte ∷ text) is inside none =
    let later = All-tail (λ b. (b < 256) × (b ≢ 0)) byte text is in
    let above = low_bytes-above width byte (spelled width text) in
    let rest = none-behind width at text later (omega (arith, inside)) (sym (ap (λ low. get_or low at 0) above) ∙ none) in
    let unit = 256 ^ (width - at) in
    let parts : 256 ^ width ≡ 256 ^ at * unit = ap (λ n. 256 ^ n) (let same : width ≡ at + (width - at) = omega (arith, inside) in same) ∙ pow-add 256 at (width - at) in
    ap (λ n. (byte * 256 ^ width + spelled width text) % 256 ^ n) (let one_less : suc width - suc at ≡ width - at = omega arith in one_less)
    ∙ ap (λ n. (n + spelled width text) % unit) (ap (λ n. byte * n) parts ∙ sym (mul_assoc byte (256 ^ at) unit)) ∙ mul-add-mod_self_right (byte * 256 ^ at) unit (spelled width text) ∙ rest

pub zeros-behind : (word at : ℕ) (bytes : List ℕ) → bytes ≡ to_be_bytes w64 word → BeginsText word → at < 8 → get_or bytes at 0 ≡ 0 → word % 256 ^ (8 - at) ≡ 0
unfolding first_word
zeros-behind word at bytes is (text, are, begins) inside none =
    let low : bytes ≡ low_bytes 8 (spelled 8 text) = is ∙ be-low_bytes word ∙ ap (low_bytes 8) begins in
    ap (λ n. n % 256 ^ (8 - at)) begins ∙ none-behind 8 at text are inside (sym (ap (λ bytes. get_or bytes at 0) low) ∙ none)

pub word-text : (word : ℕ) (bytes : List ℕ) → bytes ≡ to_be_bytes w64 word → text_in (word ∷ []) ≡ filter (λ byte. nat_lt 0 byte) bytes
unfolding text_in
word-text word bytes is = ap (filter (λ byte. nat_lt 0 byte)) (append-nil (low_bytes 8 word) ∙ sym (is ∙ be-low_bytes word))

-- Where no byte is zero, all are kept.
all-kept : (bytes : List ℕ) → length (filter (λ byte. nat_lt 0 byte) bytes) ≡ length bytes → filter (λ byte. nat_lt 0 byte) bytes ≡ bytes
all-kept [] same = refl
all-kept (byte ∷ bytes) same =
    elim (nat_lt 0 byte) as (λ b. length (cond b (byte ∷ filter (λ byte. nat_lt 0 byte) bytes) (filter (λ byte. nat_lt 0 byte) bytes)) ≡ suc (length bytes) →
    cond b (byte ∷ filter (λ byte. nat_lt 0 byte) bytes) (filter (λ byte. nat_lt 0 byte) bytes) ≡ byte ∷ bytes) [
      | true ↦ λ all. ap (λ rest. byte ∷ rest) (all-kept bytes (omega (arith, all)))
      | false ↦ λ fewer. absurd (let most = length-filter-le (λ byte. nat_lt 0 byte) bytes in omega (arith, fewer, most))
    ] same

pub full-text : (word : ℕ) (bytes : List ℕ) → bytes ≡ to_be_bytes w64 word → length (text_in (word ∷ [])) ≡ 8 → text_in (word ∷ []) ≡ bytes
full-text word bytes is full =
    let text = word-text word bytes is in
    text ∙ all-kept bytes (sym (ap length text) ∙ full ∙ sym (ap length is))
