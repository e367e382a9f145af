-- Keys, and the order in which an array lists them.
use Rattle.std.specs.Prelude.{ℕ, ◌^◌, ◌<◌, ◌≤◌, ◌≢◌, List, length, All}
use Rattle.std.specs.declared.cmp.Ordering.{Ordering}
use Rattle.std.specs.Ordering.{nat_cmp}
use Rattle.std.specs.Cmp.Lexicographic.{slice_cmp}
use Rattle.judy_model.specs.declared.keys.TheConstants.{LONGEST_KEY}

-- A word is a whole number from 0 to 2^64 - 1. (The manual's index of Judy1 and JudyL, and every value.)
abbrev pub IsWord : ℕ → Type 0
IsWord n = n < 2 ^ 64

-- Words are ordered as numbers.
abbrev pub word_order : ℕ → ℕ → Ordering
word_order = nat_cmp

-- A byte string is a list of bytes, each a number from 0 to 255.
abbrev pub IsByteString : List ℕ → Type 0
IsByteString bytes = All (λ byte. byte < 256) bytes

-- Byte strings are ordered by the first place where they differ, the smaller byte first; a proper prefix
-- comes before what it begins. (This project's own order.)
abbrev pub byte_order : List ℕ → List ℕ → Ordering
byte_order = slice_cmp nat_cmp

-- A key of a judyhs array: a byte string of at most 1,024 bytes. (The limit is this project's own.)
pub record IsBytesKey (key : List ℕ) : Type 0 where
  pub is_byte_string : IsByteString key
  pub within_limit : length key ≤ LONGEST_KEY

-- A key of a judysl array: such a byte string that holds no zero byte, as in the manual's C strings.
pub record IsStringKey (key : List ℕ) : Type 0 where
  pub is_bytes_key : IsBytesKey key
  pub without_zero : All (λ byte. byte ≢ 0) key
