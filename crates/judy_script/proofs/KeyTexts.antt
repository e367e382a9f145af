-- Hexadecimal digits by `hex` and by the definitions.
use Rattle.std.proofs.Common.{◌≡◌, ℕ, zero, suc, ◌/◌, ◌%◌, ◌<◌, ◌==◌, Bool, true, List, [], ◌∷◌, ◌&&◌, slice_index, get_or, inl, inr, refl, arith}
use Rattle.std.specs.Prelude.{IsOk, OnOk, Result, Ok, Err}
use Rattle.std.proofs.lemmas.Bool.{and_parts, cases_eq, eqb-true}
use Rattle.hex.specs.Hex.{encode_with, encode_lower, lower_digits}
use Rattle.judy_model.specs.KeyTokens.{digit_of, digits_of}

-- a digit of the table, for each number below a bound
abbrev all_digits : ℕ → Bool
all_digits zero = true
all_digits (suc n) = (slice_index lower_digits n == digit_of n) && all_digits n

a_digit : (bound n : ℕ) → all_digits bound ≡ true → n < bound → slice_index lower_digits n ≡ digit_of n
a_digit zero n all below = absurd (omega arith)
a_digit (suc bound) n all below =
    let parts = and_parts (slice_index lower_digits bound == digit_of bound) (all_digits bound) all in
    elim (cases_eq n bound) [
      | inl same ↦ rw same (eqb-true (slice_index lower_digits bound) (digit_of bound) parts.0)
      | inr other ↦ a_digit bound n parts.1 (omega arith)
    ]

digit : (n : ℕ) → n < 16 → slice_index lower_digits n ≡ digit_of n
digit n below = a_digit 16 n refl below

-- each byte has the same two digits
pub encode_lower-digits_of : (bytes : List ℕ) → ((i : ℕ) → get_or bytes i 0 < 256) → encode_lower bytes ≡ digits_of bytes
unfolding encode_with
encode_lower-digits_of [] small = refl
encode_lower-digits_of (byte ∷ bytes) small =
    let here : byte < 256 = small 0 in
    rw (digit (byte / 16) (omega arith), digit (byte % 16) (omega arith), encode_lower-digits_of bytes (λ i. small (suc i))) refl

-- what holds at a success holds of one
pub of_success : {A E : Type 0} {P : Type 0} (result : Result A E) → IsOk result → OnOk result P → P
of_success (Ok value) ok holds = holds
of_success (Err error) ok holds = absurd (cc)
