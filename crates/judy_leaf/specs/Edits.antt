-- A change of packed keys that stand in a block.
use Rattle.std.specs.Prelude.{◌≡◌, ℕ, List, length, take, drop, slice_index}
use Rattle.std.specs.List.{AllByRecursion}
use Rattle.judy_block.specs.Contents.{Contents}
use Rattle.judy_leaf.specs.Packing.{places_of, HasZeroPadding}

-- The keys from a word on are changed, and all else of the block stays.
pub record IsEdit (width start : ℕ) (change : List ℕ → List ℕ) (before after : Contents) : Type 0 where
  pub capacity : after.capacity ≡ before.capacity
  pub tag : after.tag ≡ before.tag
  pub long : length after.words ≡ length before.words
  pub front : take start after.words ≡ take start before.words
  pub changed : places_of width (drop start after.words) ≡ change (places_of width (drop start before.words))
  pub tight : AllByRecursion (HasZeroPadding width) (drop start after.words)

-- The number stands in the first place of the words, or it is 0 and there are none.
abbrev pub IsFirstPlace : ℕ → List ℕ → ℕ → Type 0
IsFirstPlace width words first = first ≡ slice_index (places_of width words) 0
