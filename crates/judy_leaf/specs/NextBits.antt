-- The bits of four words that are still to come.
use Rattle.std.specs.Prelude.{◌≡◌, ℕ, ◌+◌, ◌*◌, ◌^◌, ◌<◌, ◌≤◌, false, List, slice_index}
use Rattle.std.specs.Int.{bit_at}
use Rattle.judy_bits.specs.BitWords.{is_set}

-- Those from a byte on are some bits of one word and all of the words behind it: no bit of the words before it is one of them.
pub record AreLeft (words : List ℕ) (word left byte : ℕ) : Type 0 where
  pub inside : word < 4
  pub fits : left < 2 ^ 64
  pub near : byte ≤ 64 * word + 64
  pub passed : (at : ℕ) → byte ≤ at → at < 64 * word → is_set words at ≡ false
  pub gone : (at : ℕ) → 64 * word + at < byte → bit_at left at ≡ 0
  pub same : (at : ℕ) → at < 64 → byte ≤ 64 * word + at → bit_at left at ≡ bit_at (slice_index words word) at
