-- A change of the values of a leaf in its block.
use Rattle.std.specs.Prelude.{◌≡◌, ℕ, List, take}
use Rattle.judy_block.specs.Contents.{Contents}
use Rattle.judy_leaf.specs.Leaves.{keys_from, AreKeysFrom}

-- The values, which are the first words, and their number are changed; the keys, so many, stay, and follow them.
pub record IsValueChange (keys count later : ℕ) (change : List ℕ → List ℕ) (before after : Contents) : Type 0 where
  pub capacity : after.capacity ≡ before.capacity
  pub tag : after.tag ≡ before.tag
  pub are : AreKeysFrom before.tag keys later after
  pub same : keys_from before.tag keys later after ≡ keys_from before.tag keys count before
  pub changed : take later after.words ≡ change (take count before.words)
