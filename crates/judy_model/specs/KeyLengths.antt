-- Keys of arrays over byte strings with a longest key of their own.
use Rattle.std.specs.Prelude.{ℕ, ◌≤◌, ◌≢◌, List, length, All}
use Rattle.judy_model.specs.Keys.{IsByteString}

-- A key of an array over byte strings whose keys have at most so many bytes. (The manual has no such limit.)
pub record IsBytesKeyTo (longest : ℕ) (key : List ℕ) : Type 0 where
  pub is_byte_string : IsByteString key
  pub within_limit : length key ≤ longest

-- A key of an array over strings whose keys have at most so many bytes: none of them is zero.
pub record IsStringKeyTo (longest : ℕ) (key : List ℕ) : Type 0 where
  pub is_bytes_key : IsBytesKeyTo longest key
  pub without_zero : All (λ byte. byte ≢ 0) key
