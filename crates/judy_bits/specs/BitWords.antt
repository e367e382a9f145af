-- Words of bits, and four of them as the set of bytes whose bit is 1.
use Rattle.std.specs.Prelude.{◌≡◌, ℕ, ◌==◌, ◌/◌, ◌%◌, ◌^◌, ◌<◌, ◌≤◌, Bool, List, filter, slice_index, count_ones}
use Rattle.std.specs.Int.{bit_at}
use Rattle.std.specs.List.{range_with_len}

-- ---- one word

-- No bit of the word from a place on is 1.
abbrev pub NoneFrom : ℕ → ℕ → Type 0
NoneFrom word from = (at : ℕ) → from ≤ at → at < 64 → bit_at word at ≡ 0

-- The place is the lowest from another on whose bit is 1.
pub record IsLowestFrom (word from place : ℕ) : Type 0 where
  pub inside : place < 64
  pub not_before : from ≤ place
  pub one : bit_at word place ≡ 1
  pub lowest : (at : ℕ) → from ≤ at → at < place → bit_at word at ≡ 0

-- No bit of the word below a place is 1.
abbrev pub NoneBelow : ℕ → ℕ → Type 0
NoneBelow word limit = (at : ℕ) → at < limit → bit_at word at ≡ 0

-- The place is the highest below another whose bit is 1.
pub record IsHighestBelow (word limit place : ℕ) : Type 0 where
  pub inside : place < limit
  pub one : bit_at word place ≡ 1
  pub highest : (at : ℕ) → place < at → at < limit → bit_at word at ≡ 0

-- The bit at the place is 1, and so many are 1 below it.
pub record IsSelected (word index place : ℕ) : Type 0 where
  pub inside : place < 64
  pub one : bit_at word place ≡ 1
  pub below : count_ones (word % 2 ^ place) ≡ index

-- ---- four words

-- Whether the bit of a byte is 1: it is bit `byte mod 64` of word `byte / 64`.
abbrev pub is_set : List ℕ → ℕ → Bool
is_set words byte = bit_at (slice_index words (byte / 64)) (byte % 64) == 1

-- The bytes whose bit is 1, in ascending order.
unfoldable pub members_of : List ℕ → List ℕ
members_of words = filter (is_set words) (range_with_len 0 256)
