-- A tree made of sorted pairs.
use Rattle.std.specs.Prelude.{◌≡◌, ℕ, ◌+◌, ◌*◌, ◌/◌, ◌%◌, ◌^◌, ◌≤◌, ◌==◌, if◌then◌else◌, List, [], ◌∷◌, ◌++◌, length, slice_index_or}
use Rattle.judy_model.specs.Forms.{loose_in}
use Rattle.judy_model.specs.Shapes.{AllBelow}
use Rattle.judy_leaf.specs.KeyLists.{low_pairs}
use Rattle.judy_node.specs.Trees.{Pairs, Tree, IsTight, IsMap, join, forms_in, IsChild, AreChildren}

-- Bytes in the middle of a key: what stands above the lowest ones, counted by `unit`, but below `top` of these units.
abbrev pub middle : ℕ → ℕ → ℕ → ℕ
middle unit top key = key / unit % top

-- The byte that stands above the lowest ones, so many, of the first pair's key.
abbrev pub first_byte : ℕ → Pairs → ℕ
first_byte below pairs = middle (256 ^ below) 256 (slice_index_or pairs 0 (0, 0)).0

-- How many of the first pairs have these middle bytes.
abbrev pub sharing : ℕ → ℕ → ℕ → Pairs → ℕ
sharing unit top head [] = 0
sharing unit top head (pair ∷ pairs) = if middle unit top pair.0 == head then 1 + sharing unit top head pairs else 0

-- Pairs whose keys strictly ascend where they are read by their lowest bytes, so many and one above them.
abbrev pub AreSorted : ℕ → ℕ → Pairs → Type 0
AreSorted words below pairs = (low : ℕ) × IsMap words low (256 ^ below * 256) (low_pairs (256 ^ below * 256) pairs)

-- A node made of pairs whose keys are read by their lowest bytes, as many as a width: it has these pairs, and it is tight.
pub record IsBuilt (words width : ℕ) (pairs : Pairs) (tree : Tree) : Type 0 where
  pub child : IsChild words width tree
  pub same : tree.pairs ≡ low_pairs (256 ^ width) pairs
  pub tight : IsTight tree

-- How far the children of a branch are made: those of the pairs before the rest. Their bytes are below `next`, and what is
-- left begins there.
pub record AreMade (words width : ℕ) (pairs rest : Pairs) (bytes : List ℕ) (kids : List Tree) (next : ℕ) : Type 0 where
  pub children : AreChildren words width 0 bytes kids
  pub before : AllBelow next bytes
  pub after : IsMap words (next * 256 ^ width) (256 ^ width * 256) (low_pairs (256 ^ width * 256) rest)
  pub joined : join (256 ^ width) 0 bytes kids ++ low_pairs (256 ^ width * 256) rest ≡ low_pairs (256 ^ width * 256) pairs
  pub tight : loose_in (forms_in kids) ≡ 0
  pub none : length bytes ≡ 0 → rest ≡ pairs
  pub one : length bytes ≡ 1 → 1 ≤ length rest
