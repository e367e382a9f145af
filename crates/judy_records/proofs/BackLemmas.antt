-- What the words of a byte string spell is that byte string.
use Rattle.std.proofs.Common.{◌≡◌, ℕ, zero, suc, ◌+◌, ◌-◌, ◌*◌, ◌/◌, ◌%◌, ◌^◌, ◌<◌, ◌≤◌, List, [], ◌∷◌, ◌++◌, length, get_or, take, drop, sym, refl, ap, ◌∙◌, arith, rules}
use Rattle.std.specs.Int.{to_be_bytes, w64}
use Rattle.std.specs.List.{flat_map}
use Rattle.std.proofs.lemmas.List.{length-drop, take-append-drop, take_more, flat_map_more}
use Rattle.std.proofs.lemmas.Nat.{div-mul-add}
use Rattle.std.proofs.lemmas.List.Elements.{All-head, All-tail}
use Rattle.std.proofs.Math.Nat.{mod-eq_of_lt}
use Rattle.judy_model.specs.Keys.{IsByteString}
use Rattle.judy_model.specs.WordBytes.{low_bytes}
use Rattle.judy_model.proofs.lemmas.orders.ByteLemmas.{low_bytes-above, length-low_bytes}
use Rattle.judy_records.specs.Texts.{spelled, first_word, words_of, bytes_in}
use Rattle.judy_records.proofs.TextLemmas.{words-cons}
use Rattle.judy_records.proofs.OrderLemmas.{spelled-lt, all-drop}

-- The first of a list's elements that a longer list begins with, and those behind it.
take-joined : (n : ℕ) (xs ys : List ℕ) → take n (xs ++ ys) ≡ take n xs ++ take (n - length xs) ys
take-joined zero xs ys = (let none : 0 - length xs ≡ 0 = omega arith in sym (ap (λ k. take k ys) none))
take-joined (suc n) [] ys = (let all : suc n ≡ suc n - 0 = omega arith in ap (λ k. take k ys) all)
take-joined (suc n) (x ∷ xs) ys =
    let one : n - length xs ≡ suc n - suc (length xs) = omega arith in
    ap (λ rest. x ∷ rest) (take-joined n xs ys ∙ ap (λ k. take n xs ++ take k ys) one)

-- The bytes of the word that bytes spell are the first of them, as many as they are.
low-spelled : (width : ℕ) (bytes : List ℕ) → IsByteString bytes → take (length bytes) (low_bytes width (spelled width bytes)) ≡ take width bytes
low-spelled zero [] are = refl
low-spelled zero (byte ∷ bytes) are = refl
low-spelled (suc width) [] are = refl
low-spelled (suc width) (byte ∷ bytes) are =
    let later = All-tail (λ b. b < 256) byte bytes are in
    let digit : (byte * 256 ^ width + spelled width bytes) / 256 ^ width % 256 ≡ byte =
    ap (λ n. n % 256) (div-mul-add byte (256 ^ width) (spelled width bytes) (spelled-lt width bytes later)) ∙ mod-eq_of_lt (All-head (λ b. b < 256) byte bytes are) in
    (λ i. digit i ∷ take (length bytes) (low_bytes-above width byte (spelled width bytes) i))
    ∙ ap (λ rest. byte ∷ rest) (low-spelled width bytes later)

pub low-first : (bytes : List ℕ) → IsByteString bytes → take (length bytes) (low_bytes 8 (first_word bytes)) ≡ take 8 bytes
unfolding first_word
low-first bytes are = low-spelled 8 bytes are

back-within : (most : ℕ) (bytes : List ℕ) → length bytes ≤ most → IsByteString bytes → bytes_in (length bytes) (words_of bytes) ≡ bytes
back-within most [] within are = refl
back-within zero (byte ∷ bytes) within are = absurd (omega (arith, within))
back-within (suc most) (byte ∷ rest) within are =
    let bytes = byte ∷ rest in
    let left = length-drop 8 bytes in
    let low = low_bytes 8 (first_word bytes) in
    let behind = flat_map (λ word. low_bytes 8 word) (words_of (drop 8 bytes)) in
    let long = length-low_bytes 8 (first_word bytes) in
    let same : length bytes - length low ≡ length (drop 8 bytes) = omega (arith, left, long) in
    ap (bytes_in (length bytes)) (words-cons bytes (omega arith))
    ∙ take-joined (length bytes) low behind
    ∙ (λ i. low-first bytes are i ++ take (same i) behind)
    ∙ ap (λ later. take 8 bytes ++ later) (back-within most (drop 8 bytes) (omega (arith, left, within)) (all-drop (λ b. b < 256) 8 bytes are))
    ∙ take-append-drop 8 bytes

pub bytes-back : (bytes : List ℕ) → IsByteString bytes → bytes_in (length bytes) (words_of bytes) ≡ bytes
bytes-back bytes are = back-within (length bytes) bytes (omega arith) are

-- ---- the bytes of words, one after the other

pub be-low_bytes : (word : ℕ) → to_be_bytes w64 word ≡ low_bytes 8 word
be-low_bytes word = search rules

-- Those of one word more.
pub bytes-more : (words : List ℕ) (at : ℕ) → at < length words → (now after : List ℕ) → now ≡ flat_map (λ word. low_bytes 8 word) (take at words) → after ≡ now ++ to_be_bytes w64 (get_or words at 0)
    → after ≡ flat_map (λ word. low_bytes 8 word) (take (at + 1) words)
bytes-more words at inside now after is pushed =
    pushed
    ∙ (λ i. is i ++ be-low_bytes (get_or words at 0) i)
    ∙ flat_map_more (λ word. low_bytes 8 word) [] (take at words) (get_or words at 0)
    ∙ ap (flat_map (λ word. low_bytes 8 word)) (sym (take_more words at 0 inside))
