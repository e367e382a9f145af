-- The number that skipped bytes spell, from the array that they are kept in.
use Rattle.std.proofs.Common.{◌≡◌, ℕ, zero, suc, ◌-◌, ◌/◌, ◌<◌, List, [], ◌∷◌, ◌++◌, length, drop, replicate, get_or, refl, ap, sym, ◌∙◌, arith}
use Rattle.std.specs.Int.{w64, from_be_bytes}
use Rattle.judy_model.specs.WordBytes.{number_of}
use Rattle.judy_bits.specs.Paddings.{IsLed, led-drop}

-- Seven bytes with one more behind them, read as a number, and that one left out.
pub number_of_seven : (a b c d e f g last : ℕ) → last < 256 → from_be_bytes w64 (a ∷ b ∷ c ∷ d ∷ e ∷ f ∷ g ∷ last ∷ []) / 256 ≡ number_of (a ∷ b ∷ c ∷ d ∷ e ∷ f ∷ g ∷ [])
number_of_seven a b c d e f g last small = omega arith

-- Zeros in front leave the number.
pub number_of-led : (count : ℕ) (bytes : List ℕ) → number_of (replicate count 0 ++ bytes) ≡ number_of bytes
number_of-led zero bytes = refl
number_of-led (suc count) bytes = omega (arith, number_of-led count bytes)

seven_of : (xs : List ℕ) → length xs ≡ 7 → get_or xs 0 0 ∷ get_or xs 1 0 ∷ get_or xs 2 0 ∷ get_or xs 3 0 ∷ get_or xs 4 0 ∷ get_or xs 5 0 ∷ get_or xs 6 0 ∷ [] ≡ xs
seven_of (a ∷ b ∷ c ∷ d ∷ e ∷ f ∷ g ∷ []) seven = refl
seven_of xs seven = let never : ⊥ = omega arith in absurd never

-- The number is all eight bytes without the count.
pub number_of-skip : (array : List ℕ) (count : ℕ) → IsLed array count
    → from_be_bytes w64 (get_or array 0 0 ∷ get_or array 1 0 ∷ get_or array 2 0 ∷ get_or array 3 0 ∷ get_or array 4 0 ∷ get_or array 5 0 ∷ get_or array 6 0 ∷ count ∷ []) / 256 ≡
    number_of (drop (7 - count) array)
number_of-skip array count is =
    number_of_seven (get_or array 0 0) (get_or array 1 0) (get_or array 2 0) (get_or array 3 0) (get_or array 4 0) (get_or array 5 0) (get_or array 6 0) count (let within = is.within in omega arith)
    ∙ ap number_of (seven_of array is.seven) ∙ ap number_of (sym (led-drop array count is)) ∙ number_of-led (7 - length (drop (7 - count) array)) (drop (7 - count) array)
