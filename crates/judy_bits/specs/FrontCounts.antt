-- How many members of a set of bytes are before each of four words of bits.
use Rattle.std.specs.Prelude.{◌≡◌, ℕ, ◌*◌, ◌<◌, List, slice_index}
use Rattle.judy_bits.specs.ByteSets.{rank}

-- The counts are the members below the first byte of each word.
abbrev pub AreFronts : List ℕ → List ℕ → Type 0
AreFronts counts members = (word : ℕ) → word < 4 → slice_index counts word ≡ rank members (64 * word)
