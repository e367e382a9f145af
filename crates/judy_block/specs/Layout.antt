-- How a block lies in the words of its allocation: a header, the words in use, spare words. The header has the number of
-- words in use in bits 0 to 15, the capacity in bits 16 to 31 and the tag in bits 32 to 63.
use Rattle.std.specs.Prelude.{◌≡◌, ℕ, ◌/◌, ◌%◌, ◌^◌, ◌<◌, ◌≤◌, List, [], ◌∷◌, length, take}
use Rattle.judy_block.specs.Contents.{Contents, empty_block}

-- The number of words in use.
abbrev pub used_of : ℕ → ℕ
used_of header = header % 2 ^ 16

-- The capacity.
abbrev pub capacity_of : ℕ → ℕ
capacity_of header = header / 2 ^ 16 % 2 ^ 16

-- The tag.
abbrev pub tag_of : ℕ → ℕ
tag_of header = header / 2 ^ 32

-- The block that lies in these words.
abbrev pub contents_of : List ℕ → Contents
contents_of [] = empty_block 0
contents_of (header ∷ words) = record {
  words = take (used_of header) words;
  capacity = capacity_of header;
  tag = tag_of header;
}

-- As many words follow the header as the capacity says, at least one, and no more of them are in use.
abbrev pub IsBlock : List ℕ → Type 0
IsBlock [] = ⊥
IsBlock (header ∷ words) = (length words ≡ capacity_of header) × (1 ≤ capacity_of header)
    × (used_of header ≤ capacity_of header) × (header < 2 ^ 64)
