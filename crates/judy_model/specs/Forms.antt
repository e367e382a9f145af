-- What a tree is made of, seen apart from its values: its nodes. Which nodes a set of keys has is the rule of
-- Shapes.antt. (The names of the kinds are those of HP's Shop Manual, but "full", which is this project's own.)
use Rattle.std.specs.Prelude.{ℕ, ◌+◌, ◌-◌, ◌*◌, ◌^◌, Bool, true, false, nat_le, if◌then◌else◌, List, [], ◌∷◌, ◌++◌, length}
use Rattle.judy_model.specs.WordBytes.{number_of}

-- A node without its children. The keys of a node of width w are words below 256^w.
pub data Node : Type 0 where
  -- a few keys: these
  immediate : List ℕ → Node
  -- up to 32 keys: these
  leaf : List ℕ → Node
  -- keys that differ in their last byte alone: the bytes before it, which the node skips; the last bytes
  bitmap_leaf : List ℕ → List ℕ → Node
  -- keys that differ before their last byte: the bytes that all of them begin with, which the node skips; the bytes
  -- that come next, a child for each; how many keys are below the node
  branch : List ℕ → List ℕ → ℕ → Node

-- The form of a tree: its nodes, each before its children, and these by ascending byte. No keys have no node. A branch
-- says how many children it has, so the list tells whose child each node is (`keys_at` reads it so): two trees are
-- alike exactly where their forms are equal.
abbrev pub Form : Type 0
Form = List Node

-- ---- the keys of a form

-- Where a node stands: the least word that could be a key there, and the width of its keys.
abbrev pub Place : Type 0
Place = ℕ × ℕ

-- Keys, each so much higher.
abbrev pub raise : ℕ → List ℕ → List ℕ
raise from [] = []
raise from (key ∷ keys) = (from + key) ∷ raise from keys

-- The places of a branch's children, of keys of a width. `block` counts the blocks of 256^width words from the
-- branch's own place on, up to the one for byte 0: what the skipped bytes spell, and then that byte.
abbrev pub places_of : ℕ → ℕ → ℕ → List ℕ → List Place
places_of from width block [] = []
places_of from width block (byte ∷ bytes) = (from + (block + byte) * 256 ^ width, width) ∷ places_of from width block bytes

-- The keys of nodes that stand at these places, in order, each node's children at places that come before the rest.
abbrev pub keys_at : List Place → Form → List ℕ
keys_at places [] = []
keys_at [] (node ∷ nodes) = []
keys_at (place ∷ places) (immediate keys ∷ nodes) = raise place.0 keys ++ keys_at places nodes
keys_at (place ∷ places) (leaf keys ∷ nodes) = raise place.0 keys ++ keys_at places nodes
keys_at (place ∷ places) (bitmap_leaf skipped bytes ∷ nodes) = raise (place.0 + number_of skipped * 256) bytes ++ keys_at places nodes
keys_at (place ∷ places) (branch skipped bytes count ∷ nodes) =
    keys_at (places_of place.0 (place.1 - (length skipped + 1)) (number_of skipped * 256) bytes ++ places) nodes

-- The keys of a tree of a width.
abbrev pub keys_in : ℕ → Form → List ℕ
keys_in width form = keys_at ((0, width) ∷ []) form

-- ---- loose nodes

-- A node is loose where a smaller one would do: a bitmap leaf or a branch with at most 32 keys, a branch with one
-- child. (This project's own.)
abbrev pub is_loose : Node → Bool
is_loose (immediate keys) = false
is_loose (leaf keys) = false
is_loose (bitmap_leaf skipped bytes) = nat_le (length bytes) 32
is_loose (branch skipped bytes count) = if nat_le count 32 then true else nat_le (length bytes) 1

-- How many nodes of a tree are loose. The tree is tight where none is.
abbrev pub loose_in : Form → ℕ
loose_in [] = 0
loose_in (node ∷ nodes) = (if is_loose node then 1 else 0) + loose_in nodes

-- ---- the shape of a form

-- How many nodes of each kind there are. A branch is linear with up to 7 children, a bitmap branch with 8 to 127, and
-- full from 128 on.
pub record Shape : Type 0 where
  pub immediates : ℕ
  pub leaves : ℕ
  pub bitmap_leaves : ℕ
  pub linear : ℕ
  pub bitmap : ℕ
  pub full : ℕ

-- One branch more, by the number of its children.
abbrev pub with_branch : ℕ → Shape → Shape
with_branch children shape =
    if nat_le children 7 then record shape { linear = shape.linear + 1 }
    else (if nat_le children 127 then record shape { bitmap = shape.bitmap + 1 } else record shape { full = shape.full + 1 })

-- One node more.
abbrev pub with_node : Node → Shape → Shape
with_node (immediate keys) shape = record shape { immediates = shape.immediates + 1 }
with_node (leaf keys) shape = record shape { leaves = shape.leaves + 1 }
with_node (bitmap_leaf skipped bytes) shape = record shape { bitmap_leaves = shape.bitmap_leaves + 1 }
with_node (branch skipped bytes count) shape = with_branch (length bytes) shape

-- The shape of a tree.
abbrev pub shape_in : Form → Shape
shape_in [] = record { immediates = 0; leaves = 0; bitmap_leaves = 0; linear = 0; bitmap = 0; full = 0 }
shape_in (node ∷ nodes) = with_node node (shape_in nodes)
