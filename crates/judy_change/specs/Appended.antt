-- Sorted pairs put behind all pairs of a tree.
use Rattle.std.specs.Prelude.{◌≡◌, ℕ, ◌/◌, ◌^◌, ◌≤◌, [], ◌∷◌, ◌++◌, length, take, get_or}
use Rattle.judy_leaf.specs.KeyLists.{low_pairs}
use Rattle.judy_node.specs.Trees.{Pairs, Tree, IsTight}

-- So many of the first pairs stand behind those that were there, and all else is as it was: a tight tree is tight still, and where they
-- are none the tree is the old one, its form included.
pub record IsAppended (count : ℕ) (pairs : Pairs) (old new : Tree) : Type 0 where
  pub within : count ≤ length pairs
  pub longer : new.pairs ≡ old.pairs ++ take count pairs
  pub tight : IsTight old → IsTight new
  pub none : count ≡ 0 → new ≡ old

-- ---- below the root

-- The keys are the same above their lowest bytes, which `unit` counts.
abbrev pub AllBegin : ℕ → ℕ → Pairs → Type 0
AllBegin unit front [] = Unit {0}
AllBegin unit front (pair ∷ pairs) = (pair.0 / unit ≡ front) × AllBegin unit front pairs

-- The first key.
abbrev pub first_key : Pairs → ℕ
first_key pairs = (get_or pairs 0 (0, 0)).0

-- The same in a node whose keys have `width` bytes. The keys that are put in begin as the first one does, and are read by their lowest
-- bytes.
pub record IsLonger (width count : ℕ) (pairs : Pairs) (old new : Tree) : Type 0 where
  pub within : count ≤ length pairs
  pub alike : AllBegin (256 ^ width) (first_key pairs / 256 ^ width) (take count pairs)
  pub longer : new.pairs ≡ old.pairs ++ low_pairs (256 ^ width) (take count pairs)
  pub tight : IsTight old → IsTight new
  pub none : count ≡ 0 → new ≡ old
