-- A change of the keys of a leaf in its block.
use Rattle.std.specs.Prelude.{◌≡◌, ℕ, ◌+◌, ◌-◌, List, length, take, drop}
use Rattle.judy_block.specs.Contents.{Contents}
use Rattle.judy_leaf.specs.Packing.{IsPacked}
use Rattle.judy_leaf.specs.Leaves.{words_for, keys_from, AreKeysFrom}

-- The keys from a word on are changed, as is their number, and what stands before them stays.
pub record IsKeyChange (width start count later : ℕ) (change : List ℕ → List ℕ) (before after : Contents) : Type 0 where
  pub capacity : after.capacity ≡ before.capacity
  pub tag : after.tag ≡ before.tag
  pub front : take start after.words ≡ take start before.words
  pub keys : AreKeysFrom width later start after
  pub changed : keys_from width later start after ≡ change (keys_from width count start before)

-- The keys stay, and have words enough for one more.
pub record HasPlace (width count start : ℕ) (before after : Contents) : Type 0 where
  pub capacity : after.capacity ≡ before.capacity
  pub tag : after.tag ≡ before.tag
  pub front : take start after.words ≡ take start before.words
  pub exact : length after.words ≡ start + words_for width (count + 1)
  pub packed : IsPacked width count (drop start after.words)
  pub keys : keys_from width count start after ≡ keys_from width count start before

-- Of so many keys one is gone, and the words are still those of all.
pub record HasPlaceFor (width start count : ℕ) (block : Contents) : Type 0 where
  pub exact : length block.words ≡ start + words_for width count
  pub packed : IsPacked width (count - 1) (drop start block.words)
