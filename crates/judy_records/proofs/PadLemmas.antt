-- The bytes of the words of a byte string are its own, and then zeros.
use Rattle.std.proofs.Common.{◌≡◌, ◌≢◌, ℕ, zero, suc, ◌+◌, ◌-◌, ◌*◌, ◌/◌, ◌%◌, ◌^◌, ◌<◌, ◌≤◌, List, [], ◌∷◌, ◌++◌, length, get_or, take, drop, sym, refl, ap, ◌∙◌, arith, nat_lt, cond, Some, ⊎_elim}
use Rattle.std.specs.List.{flat_map, filter}
use Rattle.std.proofs.lemmas.List.{length-drop, take_all, take-append-drop, get_or-drop, get_or_past, get_or_append_left, get_or-append_right, append-nil}
use Rattle.std.proofs.lemmas.List.Elements.{All-head, All-tail, All-take, filter-append}
use Rattle.std.proofs.lemmas.Grind.{same_number_lists}
use Rattle.std.proofs.lemmas.Option.{slice_get-get_or, slice_get_within, get_or_from_slice_get}
use Rattle.std.proofs.lemmas.Nat.{div-mul-add}
use Rattle.std.proofs.lemmas.Bool.{cases_lt, lt-ltb}
use Rattle.std.proofs.Math.Nat.{mod-eq_of_lt}
use Rattle.judy_model.specs.Keys.{IsByteString}
use Rattle.judy_model.specs.WordBytes.{low_bytes}
use Rattle.judy_model.proofs.lemmas.orders.ByteLemmas.{low_bytes-above, length-low_bytes}
use Rattle.judy_records.specs.Texts.{spelled, first_word, words_for, words_of, text_in, EndsWell, IsText}
use Rattle.judy_records.proofs.TextLemmas.{words-cons, words-at}
use Rattle.judy_records.proofs.OrderLemmas.{spelled-lt, all-drop, text-bytes}
use Rattle.judy_records.proofs.BackLemmas.{bytes-back, low-first}

-- Those of zero are zeros.
zero-low : (width at : ℕ) → get_or (low_bytes width 0) at 0 ≡ 0
zero-low zero at = refl
zero-low (suc width) zero = grind arith
zero-low (suc width) (suc at) = zero-low width at

-- A byte of the word that bytes spell is the byte at that place, zero past their end.
low-at : (width : ℕ) (bytes : List ℕ) → IsByteString bytes → (at : ℕ) → at < width → get_or (low_bytes width (spelled width bytes)) at 0 ≡ get_or bytes at 0
low-at zero bytes are at within = absurd (omega (arith, within))
low-at (suc width) [] are at within = zero-low (suc width) at
low-at (suc width) (byte ∷ bytes) are zero within =
    ap (λ n. n % 256) (div-mul-add byte (256 ^ width) (spelled width bytes) (spelled-lt width bytes (All-tail (λ b. b < 256) byte bytes are)))
    ∙ mod-eq_of_lt (All-head (λ b. b < 256) byte bytes are)
low-at (suc width) (byte ∷ bytes) are (suc at) within =
    ap (λ low. get_or low at 0) (low_bytes-above width byte (spelled width bytes))
    ∙ low-at width bytes (All-tail (λ b. b < 256) byte bytes are) at (omega (arith, within))

first-at : (bytes : List ℕ) → IsByteString bytes → (at : ℕ) → at < 8 → get_or (low_bytes 8 (first_word bytes)) at 0 ≡ get_or bytes at 0
unfolding first_word
first-at bytes are at within = low-at 8 bytes are at within

-- The bytes of words.
abbrev pub bytes_of : List ℕ → List ℕ
bytes_of words = flat_map (λ word. low_bytes 8 word) words

padded-within : (most : ℕ) (bytes : List ℕ) → length bytes ≤ most → IsByteString bytes → (at : ℕ) → get_or (bytes_of (words_of bytes)) at 0 ≡ get_or bytes at 0
padded-within most [] within are at = refl
padded-within zero (byte ∷ bytes) within are at = absurd (omega (arith, within))
padded-within (suc most) (byte ∷ rest) within are at =
    let bytes = byte ∷ rest in
    let left = length-drop 8 bytes in
    let low = low_bytes 8 (first_word bytes) in
    let behind = bytes_of (words_of (drop 8 bytes)) in
    let long = length-low_bytes 8 (first_word bytes) in
    ap (λ words. get_or (bytes_of words) at 0) (words-cons bytes (omega arith))
    ∙ ⊎_elim
    (λ here. get_or_append_left low behind 0 at (omega (arith, long, here)) ∙ first-at bytes are at here)
    (λ past.
    let back : 8 + (at - 8) ≡ at = omega (arith, past) in
    get_or-append_right low behind 8 at 0 long past
    ∙ padded-within most (drop 8 bytes) (omega (arith, left, within)) (all-drop (λ b. b < 256) 8 bytes are) (at - 8)
    ∙ get_or-drop 8 bytes (at - 8) 0
    ∙ ap (λ k. get_or bytes k 0) back)
    (cases_lt at 8)

pub padded : (bytes : List ℕ) → IsByteString bytes → (at : ℕ) → get_or (bytes_of (words_of bytes)) at 0 ≡ get_or bytes at 0
padded bytes are at = padded-within (length bytes) bytes (omega arith) are at

-- ---- only one byte string that doesn't end with a zero has its words

-- The last byte isn't zero.
pub last-some : (bytes : List ℕ) → EndsWell bytes → 0 < length bytes → get_or bytes (length bytes - 1) 0 ≢ 0
last-some bytes ends some none = ends (slice_get-get_or bytes (length bytes - 1) 0 (omega (arith, some)) ∙ ap Some none)

module _ (one two : List ℕ) (p : IsByteString one) (q : IsByteString two) (same : words_of one ≡ words_of two) where
  same-at : (at : ℕ) → get_or one at 0 ≡ get_or two at 0
  same-at at = sym (padded one p at) ∙ ap (λ words. get_or (bytes_of words) at 0) same ∙ padded two q at

  not-longer : EndsWell two → length two ≤ length one
  not-longer ends = ⊎_elim
      (λ less. absurd (last-some two ends (omega (arith, less)) (sym (same-at (length two - 1)) ∙ get_or_past one (length two - 1) 0 (omega (arith, less)))))
      (λ most. most)
      (cases_lt (length one) (length two))

pub same-ends : (one two : List ℕ) → IsByteString one → IsByteString two → EndsWell one → EndsWell two → words_of one ≡ words_of two → one ≡ two
same-ends one two p q ends end same =
    let most = not-longer one two p q same end in
    let least = not-longer two one q p (sym same) ends in
    same_number_lists one two (omega (arith, most, least)) (λ at _. same-at one two p q same at)

-- ---- a text is what its words spell

none-left : (bytes : List ℕ) → ((at : ℕ) → get_or bytes at 0 ≡ 0) → filter (λ byte. nat_lt 0 byte) bytes ≡ []
none-left [] none = refl
none-left (byte ∷ bytes) none =
    let first : byte ≡ 0 = none 0 in
    ap (λ b. filter (λ byte. nat_lt 0 byte) (b ∷ bytes)) first ∙ none-left bytes (λ at. none (suc at))

all-left : (bytes : List ℕ) → IsText bytes → filter (λ byte. nat_lt 0 byte) bytes ≡ bytes
all-left [] text = refl
all-left (byte ∷ bytes) text =
    let some : 0 < byte = (let head = All-head (λ b. (b < 256) × (b ≢ 0)) byte bytes text in omega (arith, head.1)) in
    ap (λ b. cond b (byte ∷ filter (λ byte. nat_lt 0 byte) bytes) (filter (λ byte. nat_lt 0 byte) bytes)) (lt-ltb 0 byte some)
    ∙ ap (λ rest. byte ∷ rest) (all-left bytes (All-tail (λ b. (b < 256) × (b ≢ 0)) byte bytes text))

pub text-back : (text : List ℕ) → IsText text → text_in (words_of text) ≡ text
unfolding text_in
text-back text is =
    let are = text-bytes text is in
    let bytes = bytes_of (words_of text) in
    let rest = drop (length text) bytes in
    let none : (at : ℕ) → get_or rest at 0 ≡ 0 = λ at. get_or-drop (length text) bytes at 0 ∙ padded text are (length text + at) ∙ get_or_past text (length text + at) 0 (omega arith) in
    ap (filter (λ byte. nat_lt 0 byte)) (sym (take-append-drop (length text) bytes) ∙ ap (λ front. front ++ rest) (bytes-back text are))
    ∙ filter-append (λ byte. nat_lt 0 byte) text rest
    ∙ (λ i. all-left text is i ++ none-left rest none i)
    ∙ append-nil text

-- A word of a text whose last byte isn't zero has no zero byte.
module _ (text : List ℕ) (is : IsText text) (at : ℕ) (inside : at < words_for (length text)) where
  abbrev word : ℕ
  word = get_or (words_of text) at 0

  abbrev rest : List ℕ
  rest = drop (8 * at) text

  rest-is : IsText rest
  rest-is = all-drop (λ byte. (byte < 256) × (byte ≢ 0)) (8 * at) text is

  word-is : word ≡ first_word rest
  word-is = words-at (words_for (length text)) at text inside

  eight-left : word % 256 ≢ 0 → 8 ≤ length rest
  eight-left some = ⊎_elim
      (λ few.
      let last = first-at rest (text-bytes rest rest-is) 7 (omega arith) ∙ get_or_past rest 7 0 (omega (arith, few)) in
      let own : word / 1 % 256 ≡ 0 = ap (λ n. n / 1 % 256) word-is ∙ last in
      absurd (omega (arith, some, own)))
      (λ all. all)
      (cases_lt (length rest) 8)

  pub full-word : word % 256 ≢ 0 → text_in (word ∷ []) ≡ low_bytes 8 word
  unfolding text_in
  full-word some =
      let long = length-low_bytes 8 (first_word rest) in
      let own : low_bytes 8 word ≡ take 8 rest =
      ap (low_bytes 8) word-is
      ∙ sym (take_all (length rest) (low_bytes 8 (first_word rest)) (let left = eight-left some in omega (arith, long, left)))
      ∙ low-first rest (text-bytes rest rest-is) in
      ap (filter (λ byte. nat_lt 0 byte)) (append-nil (low_bytes 8 word) ∙ own)
      ∙ all-left (take 8 rest) (All-take (λ byte. (byte < 256) × (byte ≢ 0)) 8 rest rest-is)
      ∙ sym own

-- A text ends with its last byte, which isn't zero.
pub text-ends : (text : List ℕ) → IsText text → EndsWell text
text-ends text is ends =
    let at = length text - 1 in
    let inside = slice_get_within text at 0 ends in
    (is at 0 inside).1 (get_or_from_slice_get text at 0 0 ends)
