-- Keys as words.
use Rattle.std.proofs.Common.{◌≡◌, ℕ, suc, ◌+◌, ◌*◌, ◌^◌, ◌<◌, ◌≤◌, true, false, List, [], ◌∷◌, ◌++◌, length, refl, sym, ap, ◌∙◌, arith, nat_le}
use Rattle.std.proofs.Math.Nat.{pow-suc, pow-le-pow_right, mul_assoc}
use Rattle.std.proofs.lemmas.List.{length_push}
use Rattle.std.proofs.lemmas.Bool.{le-leb, lt-leb}
use Rattle.judy_model.specs.Keys.{IsByteString}
use Rattle.judy_model.specs.WordBytes.{number_of, low_bytes}
use Rattle.judy_model.proofs.lemmas.orders.ByteLemmas.{low_bytes-number_of}
use Rattle.judy_hs.specs.Parts.{part_of}

-- One byte more.
pub number_of-push : (bytes : List ℕ) (byte : ℕ) → number_of (bytes ++ byte ∷ []) ≡ number_of bytes * 256 + byte
number_of-push [] byte = omega arith
number_of-push (first ∷ rest) byte =
    let later = number_of-push rest byte in
    let long : length (rest ++ byte ∷ []) ≡ suc (length rest) = omega (arith, length_push rest byte) in
    let unit : 256 ^ length (rest ++ byte ∷ []) ≡ 256 ^ length rest * 256 = ap (λ n. 256 ^ n) long ∙ pow-suc 256 (length rest) in
    let here : first * 256 ^ length (rest ++ byte ∷ []) ≡ first * 256 ^ length rest * 256 = ap (λ n. first * n) unit ∙ sym (mul_assoc first (256 ^ length rest) 256) in
    omega arith

-- There is room for one byte more below eight.
pub room : (word count byte : ℕ) → word < 256 ^ count → count < 8 → byte < 256 → word * 256 + byte < 2 ^ 64
room word count byte below few small =
    let some : 0 < 256 = omega arith in
    let most : 256 ^ count ≤ 256 ^ 7 = pow-le-pow_right {n = 256} some {i = count} {j = 7} (omega arith) in
    omega arith

pub below_next : (word count byte : ℕ) → word < 256 ^ count → byte < 256 → word * 256 + byte < 256 ^ (count + 1)
below_next word count byte below small =
    let one : 256 ^ (count + 1) ≡ 256 ^ count * 256 = ap (λ n. 256 ^ n) (let e : count + 1 ≡ suc count = omega arith in e) ∙ pow-suc 256 count in
    omega arith

-- Two strings of one length that spell one number are one.
pub number_same : (one two : List ℕ) → IsByteString one → IsByteString two → length one ≡ length two → number_of one ≡ number_of two → one ≡ two
number_same one two p q long same = sym (low_bytes-number_of one p) ∙ (λ t. low_bytes (long t) (same t)) ∙ low_bytes-number_of two q

-- The part of a short key and of a long one.
module _ (hash_of : List ℕ → ℕ) (key : List ℕ) where
  pub part_short : length key ≤ 8 → part_of hash_of key ≡ number_of key
  part_short few = let e : nat_le (length key) 8 ≡ true = le-leb (length key) 8 few in rw e refl

  pub part_long : 8 < length key → part_of hash_of key ≡ hash_of key
  part_long many = let e : nat_le (length key) 8 ≡ false = lt-leb (length key) 8 many in rw e refl
