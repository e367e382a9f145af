-- The root of a tree as a tree.
use Rattle.std.specs.Prelude.{◌≡◌, ℕ, ◌^◌, ◌<◌, ◌≤◌, [], ◌∷◌, length}
use Rattle.judy_model.specs.Forms.{immediate}
use Rattle.judy_node.specs.Trees.{Tree, IsChild}
use Rattle.judy_node.specs.declared.node.RootOf.{RootOf}
use Rattle.judy_node.specs.declared.node.RootOf.TheVariants.{Empty, One, Many}

-- The tree without keys.
abbrev pub empty_tree : Tree
empty_tree = record { width = 8; pairs = []; form = [] }

-- The tree of one pair.
abbrev pub one_tree : ℕ → ℕ → Tree
one_tree key value = record { width = 8; pairs = (key, value) ∷ []; form = immediate (key ∷ []) ∷ [] }

-- A root as a tree, whose keys have eight bytes also where the one node below doesn't tell.
abbrev pub root_tree : {V : _} → RootOf V → Tree
root_tree Empty = empty_tree
root_tree (One key value) = one_tree key value
root_tree (Many child) = record child { width = 8 }

-- What each root keeps: the key of one pair is a word, and its value is 0 where keys have no value words; what stands below has two
-- keys or more.
abbrev pub IsRoot : {V : _} → ℕ → RootOf V → Type 0
IsRoot words Empty = Unit {0}
IsRoot words (One key value) = (key < 256 ^ 8) × (words ≡ 0 → value ≡ 0)
IsRoot words (Many child) = IsChild words 8 child × (2 ≤ length child.pairs)
