-- A pair more in the block of a leaf, or one less.
use Rattle.std.specs.Prelude.{◌≡◌, ℕ, ◌+◌, ◌*◌, ◌≤◌}
use Rattle.std.specs.List.{insert, remove}
use Rattle.judy_block.specs.Contents.{Contents}
use Rattle.judy_leaf.specs.Leaves.{keys_from, leaf_list, AreKeysFrom}

-- A key and its value are put in at a place.
pub record IsPairPut (words count at key value : ℕ) (before after : Contents) : Type 0 where
  pub capacity : after.capacity ≡ before.capacity
  pub tag : after.tag ≡ before.tag
  pub are : AreKeysFrom before.tag (count + 1) (words * (count + 1)) after
  pub keys : keys_from before.tag (count + 1) (words * (count + 1)) after ≡ insert (keys_from before.tag count (words * count) before) at key
  pub pairs : (leaf_list words (count + 1) after).pairs ≡ insert (leaf_list words count before).pairs at (key, value)

-- The key at a place is taken out with its value; so many are left.
pub record IsPairTaken (words left at : ℕ) (before after : Contents) : Type 0 where
  pub tag : after.tag ≡ before.tag
  pub are : AreKeysFrom before.tag left (words * left) after
  pub keys : keys_from before.tag left (words * left) after ≡ remove (keys_from before.tag (left + 1) (words * (left + 1)) before) at
  pub pairs : (leaf_list words left after).pairs ≡ remove (leaf_list words (left + 1) before).pairs at

-- The same words and tag in a block with room for more.
pub record HasRoom (needed : ℕ) (before after : Contents) : Type 0 where
  pub words : after.words ≡ before.words
  pub tag : after.tag ≡ before.tag
  pub room : needed ≤ after.capacity
