-- A change of a bitmap leaf in its block.
use Rattle.std.specs.Prelude.{◌≡◌, ℕ, List, length, drop}
use Rattle.judy_block.specs.Contents.{Contents}
use Rattle.judy_leaf.specs.BitLeaves.{bit_keys, bit_list, IsBitParts}

-- The bits, which are the first four words, are changed, and all else of the block stays.
pub record IsBitChange (change : List ℕ → List ℕ) (before after : Contents) : Type 0 where
  pub capacity : after.capacity ≡ before.capacity
  pub tag : after.tag ≡ before.tag
  pub long : length after.words ≡ length before.words
  pub values : drop 4 after.words ≡ drop 4 before.words
  pub changed : bit_keys after ≡ change (bit_keys before)

-- The pairs are changed, and the width stays.
pub record IsBitEdit (words : ℕ) (change : List (ℕ × ℕ) → List (ℕ × ℕ)) (before after : Contents) : Type 0 where
  pub capacity : after.capacity ≡ before.capacity
  pub parts : IsBitParts words after
  pub list : bit_list words after ≡ record (bit_list words before) { pairs = change (bit_list words before).pairs }
