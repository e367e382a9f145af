-- The kinds of nodes as trees, and what each kind keeps.
use Rattle.std.specs.Prelude.{ℕ, zero, suc, ◌+◌, ◌-◌, ◌*◌, ◌/◌, ◌%◌, ◌^◌, ◌<◌, ◌≤◌, List, [], ◌∷◌, ◌++◌, length}
use Rattle.judy_model.specs.WordBytes.{low_bytes, number_of}
use Rattle.judy_model.specs.Forms.{Form, immediate, leaf, bitmap_leaf, branch}
use Rattle.judy_model.specs.Shapes.{immediate_limit}
use Rattle.judy_block.specs.Contents.{Contents}
use Rattle.judy_leaf.specs.KeyLists.{keys_of, shift}
use Rattle.judy_leaf.specs.Leaves.{leaf_list, IsLeafParts}
use Rattle.judy_leaf.specs.BitLeaves.{bit_list, IsBitParts}
use Rattle.judy_leaf.specs.Immediates.{parts_list, IsImmParts}
use Rattle.judy_node.specs.Trees.{Pairs, Tree, IsBranch, branch_tree}
use Rattle.judy_node.specs.Populations.{AreSums}
use Rattle.judy_node.specs.Bundles.{held, IsBundle}
use Rattle.judy_node.specs.declared.child.KindOf.{KindOf}
use Rattle.judy_node.specs.declared.child.PlaceOf.{PlaceOf}
use Rattle.judy_node.specs.declared.child.KindOf.TheVariants.{Imm, Leaf, Bit, Branch}

-- ---- immediates

-- The width of an immediate's keys: without values it stands in the head, with the number of keys in the lowest byte; with a
-- value the head is the key, and the width isn't told.
abbrev pub imm_width : ℕ → ℕ → ℕ
imm_width zero head = head / 256
imm_width (suc words) head = 0

-- Its keys with their values.
abbrev pub imm_pairs : ℕ → ℕ → ℕ → Pairs
imm_pairs zero head word = (parts_list 0 (head / 256) (head % 256) word).pairs
imm_pairs (suc words) head word = (head, word) ∷ []

-- An immediate as a tree of one node.
abbrev pub imm_tree : ℕ → ℕ → ℕ → Tree
imm_tree words head word = record { width = imm_width words head; pairs = imm_pairs words head word; form = immediate (keys_of (imm_pairs words head word)) ∷ [] }

-- An immediate without values has keys, as many as a word holds at most; one with a value has its one key.
abbrev pub IsImm : ℕ → ℕ → ℕ → Type 0
IsImm zero head word = IsImmParts 0 (head / 256) (head % 256) word
IsImm (suc words) head word = suc words ≤ 1

-- ---- leaves

-- A leaf as a tree of one node.
abbrev pub leaf_tree : ℕ → ℕ → Contents → Tree
leaf_tree words count block = record { width = block.tag; pairs = (leaf_list words count block).pairs; form = leaf (keys_of (leaf_list words count block).pairs) ∷ [] }

-- A leaf has more keys than an immediate would hold.
pub record IsLeaf (words count : ℕ) (block : Contents) : Type 0 where
  pub parts : IsLeafParts words count block
  pub more : immediate_limit words block.tag < count

-- ---- bitmap leaves

-- The width of the keys of a bitmap leaf, all of whose bytes but the last are skipped.
abbrev pub bit_width : Contents → ℕ
bit_width block = block.tag / 65536

-- A bitmap leaf as a tree of one node: each key is the skipped bytes and a last byte.
abbrev pub bit_tree : ℕ → ℕ → Contents → Tree
bit_tree words skipped block = record {
  width = bit_width block;
  pairs = shift (skipped * 256) (bit_list words block).pairs;
  form = bitmap_leaf (low_bytes (bit_width block - 1) skipped) (keys_of (bit_list words block).pairs) ∷ [];
}

-- A bitmap leaf has keys, and the number that the skipped bytes spell has no more bytes than they are.
pub record IsBit (words skipped : ℕ) (block : Contents) : Type 0 where
  pub parts : IsBitParts words block
  pub some : 1 ≤ length (bit_list words block).pairs
  pub skips : skipped < 256 ^ (bit_width block - 1)

-- ---- any kind

-- A node as a tree.
abbrev pub tree_of : {V : _} → ℕ → KindOf V → Tree
tree_of words (Imm head word) = imm_tree words head word
tree_of words (Leaf count block) = leaf_tree words count block
tree_of words (Bit skipped block) = bit_tree words skipped block
tree_of words (Branch b) = branch_tree b.value.width b.value.skip b.value.bytes b.value.children.items b.value.population

-- What each node keeps beside what its children keep.
abbrev pub IsLevel : {V : _} → ℕ → KindOf V → Type 0
IsLevel words (Imm head word) = IsImm words head word
IsLevel words (Leaf count block) = IsLeaf words count block
IsLevel words (Bit skipped block) = IsBit words skipped block
IsLevel words (Branch b) = IsBranch words b.value.width b.value.skip b.value.bytes b.value.children.items b.value.population × AreSums b.value.sums b.value.children.items

-- The kind of the node at a place.
abbrev pub kind_in : {V : _} → PlaceOf V → KindOf V
kind_in place = held (Imm 0 0) place.kind

-- What each place keeps: one node, and what the node keeps.
abbrev pub IsPlaced : {V : _} → ℕ → PlaceOf V → Type 0
IsPlaced words place = IsBundle place.kind × IsLevel words (kind_in place)

-- ---- more bytes to skip

-- The node skips bytes: it is a bitmap leaf or a branch.
abbrev pub IsDeep : {V : _} → KindOf V → Type 0
IsDeep (Imm head word) = ⊥
IsDeep (Leaf count block) = ⊥
IsDeep (Bit skipped block) = Unit {0}
IsDeep (Branch b) = Unit {0}

-- A form whose first node skips more bytes, in front of its own.
abbrev pub skip_more : List ℕ → Form → Form
skip_more more [] = []
skip_more more (immediate keys ∷ nodes) = immediate keys ∷ nodes
skip_more more (leaf keys ∷ nodes) = leaf keys ∷ nodes
skip_more more (bitmap_leaf skipped bytes ∷ nodes) = bitmap_leaf (more ++ skipped) bytes ∷ nodes
skip_more more (branch skipped bytes count ∷ nodes) = branch (more ++ skipped) bytes count ∷ nodes

-- A tree that skips more bytes.
abbrev pub behind : List ℕ → Tree → Tree
behind more tree = record { width = length more + tree.width; pairs = shift (number_of more * 256 ^ tree.width) tree.pairs; form = skip_more more tree.form }
