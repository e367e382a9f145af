-- How a bitmap leaf lies in its block: four words of bits, and then a word a value, in key order. The block's tag is the number of
-- keys, and 65,536 times the width that the node's keys have with the bytes that all of them share.
use Rattle.std.specs.Prelude.{◌≡◌, ℕ, ◌+◌, ◌*◌, ◌/◌, ◌%◌, ◌≤◌, List, length, take, drop}
use Rattle.judy_block.specs.Contents.{Contents}
use Rattle.judy_bits.specs.BitWords.{members_of}
use Rattle.judy_leaf.specs.KeyLists.{KeyList, pairs_of}

-- The keys: the bytes whose bit is 1.
abbrev pub bit_keys : Contents → List ℕ
bit_keys block = members_of (take 4 block.words)

-- The keys and values of a bitmap leaf.
abbrev pub bit_list : ℕ → Contents → KeyList
bit_list words block = record { width = block.tag / 65536; pairs = pairs_of (bit_keys block) (take (words * length (bit_keys block)) (drop 4 block.words)) }

-- A block is a bitmap leaf whose keys have so many words of value each.
pub record IsBitParts (words : ℕ) (block : Contents) : Type 0 where
  pub one : words ≤ 1
  pub some : 1 ≤ block.tag / 65536
  pub most : block.tag / 65536 ≤ 8
  pub count : block.tag % 65536 ≡ length (bit_keys block)
  pub full : length block.words ≡ 4 + words * length (bit_keys block)
