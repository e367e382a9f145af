-- Maps of which the examples speak.
use Rattle.std.specs.Prelude.{ℕ, ◌^◌, ◌-◌, [], ◌∷◌, codes}
use Rattle.std.specs.FinMap.{FinMap, from_sorted}
use Rattle.judy_model.specs.Keys.{word_order, byte_order}

-- Two maps that both have 4, with two values.
abbrev pub ours : FinMap word_order ℕ
ours = from_sorted ((2, 20) ∷ (4, 40) ∷ [])

abbrev pub theirs : FinMap word_order ℕ
theirs = from_sorted ((4, 44) ∷ (7, 77) ∷ [])

-- One word each.
abbrev pub four : FinMap word_order ℕ
four = from_sorted ((4, 44) ∷ [])

abbrev pub seven : FinMap word_order ℕ
seven = from_sorted ((7, 20) ∷ [])

-- Three words.
abbrev pub three : FinMap word_order ℕ
three = from_sorted ((2, 20) ∷ (4, 40) ∷ (7, 70) ∷ [])

-- Two maps of byte strings that both have `ab`.
abbrev pub our_strings : FinMap byte_order ℕ
our_strings = from_sorted ((codes "a", 1) ∷ (codes "ab", 2) ∷ [])

abbrev pub their_strings : FinMap byte_order ℕ
their_strings = from_sorted ((codes "ab", 9) ∷ (codes "b", 3) ∷ [])

-- Sets: 2 and 4, and 2 and the greatest word.
abbrev pub greatest : ℕ
greatest = 2 ^ 64 - 1

abbrev pub two_and_four : FinMap word_order ℕ
two_and_four = from_sorted ((2, 0) ∷ (4, 0) ∷ [])

abbrev pub two_and_greatest : FinMap word_order ℕ
two_and_greatest = from_sorted ((2, 0) ∷ (greatest, 0) ∷ [])

-- Byte strings of which each begins the next, and one that none of them begins.
abbrev pub fronts : FinMap byte_order ℕ
fronts = from_sorted ((codes "a", 1) ∷ (codes "ab", 2) ∷ (codes "abcd", 3) ∷ (codes "b", 4) ∷ [])

-- The empty string, and one more.
abbrev pub with_empty : FinMap byte_order ℕ
with_empty = from_sorted (([], 7) ∷ (codes "ab", 2) ∷ [])
