-- How many zero bytes a word ends with, by the place of its lowest bit that is set.
use Rattle.std.proofs.Common.{◌≡◌, ◌≢◌, ◌+◌, ◌-◌, ◌*◌, ◌<◌, ◌%◌, ◌/◌, ◌^◌, ◌≤◌, ℕ, zero, suc, List, [], ◌∷◌, ◌++◌, length, take, get_or, nat_lt, inl, inr, sym, refl, ap, ◌∙◌, arith}
use Rattle.std.specs.List.{filter}
use Rattle.std.specs.Int.{to_be_bytes, trailing_zeros, w64}
use Rattle.std.specs.Int.Count.{count_trailing_zeros, trailing_of_zero, under}
use Rattle.std.proofs.lemmas.Bool.{cases_lt}
use Rattle.std.proofs.lemmas.List.{take_all, take_more}
use Rattle.std.proofs.lemmas.Nat.Bits.{bit_at-trailing_zeros}
use Rattle.std.proofs.Math.Nat.{pow-suc, pow-succ', mod-one}
use Rattle.std.proofs.Math.Arith.{mod-mul}
use Rattle.std.proofs.lemmas.Nat.{pow-add, trailing_le}
use Rattle.judy_model.specs.WordBytes.{low_bytes}
use Rattle.judy_model.proofs.lemmas.orders.ByteLemmas.{unit_pos, length-low_bytes}
use Rattle.judy_records.specs.Texts.{text_in}
use Rattle.judy_records.proofs.BackLemmas.{be-low_bytes}
use Rattle.judy_tails.specs.Inside.{BeginsText}
use Rattle.judy_tails.proofs.TailLemmas.{kept, kept-some, text-before, word-text, zeros-behind}

two_pos : (k : ℕ) → 0 < 2 ^ k
two_pos zero = omega arith
two_pos (suc k) = let less = two_pos k in let twice = pow-suc 2 k in omega (arith, less, twice)

-- What a product divides its second factor divides.
factor : (n m c : ℕ) → 0 < m → 0 < c → n % (m * c) ≡ 0 → n % c ≡ 0
factor n m c some more none = let parts = mod-mul n some more in omega (arith, parts, none)

-- Of the lowest bits of a number, so many are zero.
divides : (k n : ℕ) → n % 2 ^ count_trailing_zeros k n ≡ 0
unfolding count_trailing_zeros
divides zero n = mod-one n
divides (suc k) n = by (n % 2) refl (divides k (n / 2))
  where
    by : (d : ℕ) → n % 2 ≡ d → (n / 2) % 2 ^ count_trailing_zeros k (n / 2) ≡ 0 → n % 2 ^ under d (count_trailing_zeros k (n / 2)) ≡ 0
    by (suc d) odd half = mod-one n
    by zero even half =
        let t = count_trailing_zeros k (n / 2) in
        ap (λ m. n % m) (pow-suc 2 t) ∙ mod-mul n (two_pos t) (omega arith) ∙ (λ i. half i * 2 + even i)

pub bytes-bits : (z : ℕ) → 256 ^ z ≡ 2 ^ (8 * z)
bytes-bits zero = refl
bytes-bits (suc z) = pow-suc 256 z ∙ ap (λ n. n * 256) (bytes-bits z) ∙ sym (ap (λ n. 2 ^ n) (let same : 8 * suc z ≡ 8 * z + 8 = omega arith in same) ∙ pow-add 2 (8 * z) 8)

-- So many bytes at its end are zero, which the bits tell.
pub ends : (word : ℕ) → word % 256 ^ (trailing_zeros w64 word / 8) ≡ 0
ends word =
    let t = trailing_zeros w64 word in
    let z = t / 8 in
    let parts : 2 ^ t ≡ 2 ^ (t - 8 * z) * 256 ^ z =
    ap (λ n. 2 ^ n) (let same : t ≡ t - 8 * z + 8 * z = omega arith in same) ∙ pow-add 2 (t - 8 * z) (8 * z) ∙ ap (λ n. 2 ^ (t - 8 * z) * n) (sym (bytes-bits z)) in
    factor word (2 ^ (t - 8 * z)) (256 ^ z) (two_pos (t - 8 * z)) (unit_pos z) (ap (λ m. word % m) (sym parts) ∙ divides 64 word)

-- A product with a number that isn't 0 is 0 by its first factor alone.
no-product : (q unit rest : ℕ) → 0 < unit → q * unit + rest ≡ 0 → q ≡ 0
no-product zero unit rest some none = refl
no-product (suc q) unit rest some none = absurd (omega (arith, some, none))

-- A word that ends with so many zero bytes has no lower bit set.
pub no-lower : (word j : ℕ) → 0 < word → word < 2 ^ 64 → word % 256 ^ j ≡ 0 → 8 * j ≤ trailing_zeros w64 word
no-lower word j some fits none =
    let t = trailing_zeros w64 word in
    let lowest = bit_at-trailing_zeros w64 word some fits in
    elim (cases_lt t (8 * j)) [
      | inl less ↦
          let e = 8 * j - t - 1 in
          let parts : 256 ^ j ≡ (2 ^ e * 2) * 2 ^ t =
          bytes-bits j ∙ ap (λ n. 2 ^ n) (let same : 8 * j ≡ suc e + t = omega arith in same) ∙ pow-add 2 (suc e) t ∙ ap (λ n. n * 2 ^ t) (pow-suc 2 e) in
          let more : 0 < 2 ^ e * 2 = let one = two_pos e in omega (arith, one) in
          let whole = mod-mul word more (two_pos t) in
          let zeroed = ap (λ m. word % m) (sym parts) ∙ none in
          let above : (word / 2 ^ t) % (2 ^ e * 2) ≡ 0 = no-product ((word / 2 ^ t) % (2 ^ e * 2)) (2 ^ t) (word % 2 ^ t) (two_pos t) (sym whole ∙ zeroed) in
          let even = factor (word / 2 ^ t) (2 ^ e) 2 (two_pos e) (omega arith) above in
          absurd (let odd = lowest.1 in omega (arith, odd, even))
      | inr not_less ↦ omega (arith, not_less)
    ]

-- The first bytes, of which none is zero, are kept whole.
all-kept : (count : ℕ) (bytes : List ℕ) → count ≤ length bytes → ((at : ℕ) → at < count → get_or bytes at 0 ≢ 0) → kept count bytes ≡ take count bytes
all-kept zero bytes within some = refl
all-kept (suc count) bytes within some =
    let on : suc count ≡ count + 1 = omega arith in
    ap (λ n. kept n bytes) on
    ∙ kept-some bytes count (omega (arith, within)) (some count (omega arith))
    ∙ ap (λ front. front ++ get_or bytes count 0 ∷ []) (all-kept count bytes (omega (arith, within)) (λ at less. some at (omega (arith, less))))
    ∙ sym (ap (λ n. take n bytes) on ∙ take_more bytes count 0 (omega (arith, within)))

-- A byte is zero where the word ends with zeros from it on.
byte-none : (width at word : ℕ) → at < width → word % 256 ^ (width - at) ≡ 0 → get_or (low_bytes width word) at 0 ≡ 0
byte-none zero at word within none = absurd (omega (arith, within))
byte-none (suc width) zero word within none =
    let unit = unit_pos width in
    no-product (word / 256 ^ width % 256) (256 ^ width) (word % 256 ^ width) unit (sym (mod-mul word {m = 256} {c = 256 ^ width} (omega arith) unit) ∙
    ap (λ m. word % m) (sym (pow-succ' 256 width)) ∙ ap (λ n. word % 256 ^ n) (let all : suc width ≡ suc width - 0 = omega arith in all) ∙ none)
byte-none (suc width) (suc at) word within none =
    byte-none width at word (omega (arith, within)) (ap (λ n. word % 256 ^ n) (let one_less : width - at ≡ suc width - suc at = omega arith in one_less) ∙ none)

-- The text of the word with which one begins, by its lowest bit.
pub text-front : (word : ℕ) (bytes : List ℕ) → bytes ≡ to_be_bytes w64 word → word < 2 ^ 64 → BeginsText word → text_in (word ∷ []) ≡ take (8 - trailing_zeros w64 word / 8) bytes
text-front word bytes is fits begins =
    let t = trailing_zeros w64 word in
    let count = 8 - t / 8 in
    let low : bytes ≡ low_bytes 8 word = is ∙ be-low_bytes word in
    let long : length bytes ≡ 8 = ap length low ∙ length-low_bytes 8 word in
    let some : (at : ℕ) → at < count → get_or bytes at 0 ≢ 0 = λ at less none.
    let zeros = zeros-behind word at bytes is begins (omega (arith, less)) none in
    elim (cases_lt 0 word) [
      | inl positive ↦ let lower = no-lower word (8 - at) positive fits zeros in absurd (omega (arith, lower, less))
      | inr not_more ↦ let none : word ≡ 0 = omega (arith, not_more) in absurd (let all : t ≡ 64 = ap (trailing_zeros w64) none ∙ trailing_of_zero 64 in omega (arith, all, less))
    ] in
    let front = all-kept count bytes (omega (arith, long)) some in
    let all : kept count bytes ≡ filter (λ byte. nat_lt 0 byte) bytes =
    elim (cases_lt count 8) [
      | inl less ↦
          let most = trailing_le 64 word in
          let same : t / 8 ≡ 8 - count = omega (arith, less, most) in
          text-before word count bytes is begins less (ap (λ all. get_or all count 0) low ∙ byte-none 8 count word less (ap (λ z. word % 256 ^ z) (sym same) ∙ ends word))
      | inr not_less ↦ ap (filter (λ byte. nat_lt 0 byte)) (take_all count bytes (omega (arith, not_less, long)))
    ] in
    word-text word bytes is ∙ sym all ∙ front
