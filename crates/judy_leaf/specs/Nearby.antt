-- What stands nearest to a number, among keys or among the numbers that are no keys.
use Rattle.std.specs.Prelude.{◌≡◌, ℕ, ◌+◌, ◌<◌, ◌&&◌, Bool, not, nat_lt, List, length, reverse, slice_index, Option, find}
use Rattle.std.specs.Ordering.{is_le, is_ge}
use Rattle.judy_model.specs.Keys.{word_order}
use Rattle.judy_bits.specs.ByteSets as set

-- The first pair whose key isn't below the number.
abbrev pub pair_from : List (ℕ × ℕ) → ℕ → Option (ℕ × ℕ)
pair_from pairs number = find (λ pair. is_ge (word_order pair.0 number)) pairs

-- The last pair whose key isn't above it.
abbrev pub pair_up_to : List (ℕ × ℕ) → ℕ → Option (ℕ × ℕ)
pair_up_to pairs number = find (λ pair. is_le (word_order pair.0 number)) (reverse pairs)

-- Whether a number is below a bound and no key.
abbrev pub is_absent : ℕ → List ℕ → ℕ → Bool
is_absent bound keys number = nat_lt number bound && not (set.has keys number)

-- ---- places

-- A place, and the key that stands there.
pub record IsKeyAt (keys : List ℕ) (found : ℕ × ℕ) : Type 0 where
  pub inside : found.0 < length keys
  pub there : found.1 ≡ slice_index keys found.0

-- The place of the first key that isn't below a number, and that key.
pub record IsNextAt (keys : List ℕ) (number : ℕ) (found : ℕ × ℕ) : Type 0 where
  pub place : found.0 ≡ set.rank keys number
  pub key : IsKeyAt keys found

-- The place of the last key that isn't above it, and that key.
pub record IsPreviousAt (keys : List ℕ) (number : ℕ) (found : ℕ × ℕ) : Type 0 where
  pub place : found.0 + 1 ≡ set.count_up_to keys number
  pub key : IsKeyAt keys found
