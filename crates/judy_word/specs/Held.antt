-- What an array over a tree holds, and what it always keeps.
use Rattle.std.specs.Prelude.{◌≡◌, ℕ, ◌^◌, ◌≤◌, Bool, false, if◌then◌else◌, [], ◌∷◌, length}
use Rattle.std.specs.FinMap.{FinMap, contains_key, insert}
use Rattle.judy_model.specs.Keys.{word_order}
use Rattle.judy_model.specs.Arrays.{ArrayOf}
use Rattle.judy_node.specs.Trees.{Pairs, Tree, IsMap, IsNode, IsTight}
use Rattle.judy_node.specs.Roots.{empty_tree}
use Rattle.judy_node.specs.Slots as slots
use Rattle.judy_query.specs.Maps.{map_of}

-- How many keys it may hold; its tree; and whether some node of that may be larger than its keys need.
pub record Held : Type 0 where
  pub limit : ℕ
  pub tree : Tree
  pub loose : Bool

-- The map that the tree is.
abbrev pub map_in : Held → FinMap word_order ℕ
map_in held = map_of held.tree.pairs

-- The array that it is, whatever its nodes are.
abbrev pub array_in : Held → ArrayOf word_order
array_in held = record { limit = held.limit; map = map_in held }

-- A map with a key that has a value where it was absent; a key that is there keeps its own.
abbrev pub with_new : FinMap word_order ℕ → ℕ → ℕ → FinMap word_order ℕ
with_new map key value = if contains_key map key then map else insert map key value

-- The same with one pair after another.
abbrev pub with_all : FinMap word_order ℕ → Pairs → FinMap word_order ℕ
with_all map [] = map
with_all map (pair ∷ pairs) = with_all (with_new map pair.0 pair.1) pairs

-- What an array that is filled keeps: it isn't loose, and the pairs that aren't put in yet ascend.
abbrev pub IsFilling : ℕ → Held → Pairs → Type 0
IsFilling words held kept = IsMap words 0 (256 ^ 8) kept × (held.loose ≡ false)

-- Nothing, below a limit.
abbrev pub nothing_held : ℕ → Held
nothing_held limit = record { limit = limit; tree = empty_tree; loose = false }

-- The same with another value of a key.
abbrev pub with_value : Held → ℕ → ℕ → Held
with_value held key value = record held { tree = slots.with_value held.tree key value }

-- Beside what its tree keeps: it may hold a key, it holds no more than it may, and its tree is tight where it isn't loose.
pub record IsBounded (limit : ℕ) (tree : Tree) (loose : Bool) : Type 0 where
  pub holds_some : 1 ≤ limit
  pub within_limit : length tree.pairs ≤ limit
  pub tight : loose ≡ false → IsTight tree

-- What every array keeps, with so many value words a key.
pub record IsHeld (words : ℕ) (held : Held) : Type 0 where
  pub node : IsNode words held.tree
  pub bounded : IsBounded held.limit held.tree held.loose
