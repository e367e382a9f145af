-- How a leaf lies in its block: a word a value, in key order, and then the keys, packed. The block's tag is the width.
use Rattle.std.specs.Prelude.{◌≡◌, ℕ, ◌+◌, ◌-◌, ◌*◌, ◌/◌, ◌≤◌, List, length, take, drop}
use Rattle.std.specs.List.Sorted.{IsStrictlySortedBy}
use Rattle.judy_block.specs.Contents.{Contents}
use Rattle.judy_model.specs.Keys.{word_order}
use Rattle.judy_leaf.specs.Packing.{keys_in, IsPacked}
use Rattle.judy_leaf.specs.KeyLists.{KeyList, pairs_of}

-- How many words so many keys take.
abbrev pub words_for : ℕ → ℕ → ℕ
words_for width count = (count + (8 / width - 1)) / (8 / width)

-- So many keys, at most 32, are the words of a block from one on.
pub record AreKeysFrom (width count start : ℕ) (block : Contents) : Type 0 where
  pub few : count ≤ 32
  pub exact : length block.words ≡ start + words_for width count
  pub packed : IsPacked width count (drop start block.words)

-- These keys.
abbrev pub keys_from : ℕ → ℕ → ℕ → Contents → List ℕ
keys_from width count start block = keys_in width count (drop start block.words)

-- A block and the number of its keys are a leaf whose keys have so many words of value each.
pub record IsLeafParts (words count : ℕ) (block : Contents) : Type 0 where
  pub one : words ≤ 1
  pub keys : AreKeysFrom block.tag count (words * count) block
  pub ascending : IsStrictlySortedBy word_order (keys_from block.tag count (words * count) block)

-- The keys and values of a leaf.
abbrev pub leaf_list : ℕ → ℕ → Contents → KeyList
leaf_list words count block = record {
  width = block.tag;
  pairs = pairs_of (keys_from block.tag count (words * count) block) (take (words * count) block.words);
}
