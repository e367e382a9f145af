-- Where the value of a key stands in a node, and what the node becomes where it is written.
use Rattle.std.specs.Prelude.{◌≡◌, ℕ, ◌+◌, ◌*◌, ◌^◌, ◌<◌, ◌≤◌, length, Option, Some, slice_get, slice_set, slice_index, get_or, Bool, true, false, not, ◌==◌}
use Rattle.std.specs.Vec.{with_item}
use Rattle.judy_model.specs.WordBytes.{number_of}
use Rattle.judy_leaf.specs.KeyLists.{keys_of}
use Rattle.judy_leaf.specs.Leaves.{leaf_list}
use Rattle.judy_leaf.specs.BitLeaves.{bit_list}
use Rattle.judy_node.specs.Trees.{Tree, IsChild}
use Rattle.judy_node.specs.Roots.{empty_tree}
use Rattle.judy_node.specs.Steps.{IsKeyOf}
use Rattle.judy_node.specs.Slots.{value_of, with_value}
use Rattle.judy_node.specs.Bundles.{bundled}
use Rattle.judy_node.specs.declared.child.BranchOf.{BranchOf}
use Rattle.judy_node.specs.declared.child.KindOf.{KindOf}
use Rattle.judy_node.specs.declared.child.PlaceOf.{PlaceOf}
use Rattle.judy_node.specs.declared.node.RootOf.{RootOf}
use Rattle.judy_node.specs.declared.node.RootPlaceOf.{RootPlaceOf}
use Rattle.judy_node.specs.declared.node.RootOf.TheVariants.{Empty, One, Many}
use Rattle.judy_node.specs.declared.child.KindOf.TheVariants.{Imm, Leaf, Bit, Branch}

-- The value of a key stands below the child at a place of a branch, under what is left of the key.
abbrev pub IsSeatBelow : {V : _} → BranchOf V → ℕ → ℕ → ℕ → Type 0
IsSeatBelow branch key at rest = (byte : ℕ) × IsKeyOf (256 ^ branch.width) (number_of branch.skip * 256) key byte rest × (slice_get branch.bytes at ≡ Some byte)

-- The value of a key stands in the immediate itself; at a place of a leaf's block, the key's place; four places behind that in a
-- bitmap leaf's block; below a branch.
abbrev pub IsSeat : {V : _} → ℕ → KindOf V → ℕ → ℕ → ℕ → Type 0
IsSeat words (Imm head word) key at rest = key ≡ head
IsSeat words (Leaf count block) key at rest = slice_get (keys_of (leaf_list words count block).pairs) at ≡ Some key
IsSeat words (Bit skipped block) key at rest = (place : ℕ) × (low : ℕ) × (at ≡ 4 + place) × (key ≡ skipped * 256 + low) × (slice_get (keys_of (bit_list words block).pairs) place ≡ Some low)
IsSeat words (Branch b) key at rest = IsSeatBelow b.value key at rest

-- The place of a node of a kind.
abbrev pub placed : {V : _} → KindOf V → PlaceOf V
placed kind = record { kind = bundled kind }

-- The place of a root of a kind.
abbrev pub root_placed : {V : _} → RootOf V → RootPlaceOf V
root_placed kind = record { kind = kind }

-- A branch with another child at a place.
abbrev pub with_child : {V : _} → BranchOf V → ℕ → Tree → BranchOf V
with_child branch at child = record branch { children = with_item branch.children at child }

-- The child at a place.
abbrev pub child_at : {V : _} → BranchOf V → ℕ → Tree
child_at branch at = get_or branch.children.items at empty_tree

-- A branch with another value of a key below the child at a place.
abbrev pub branch_written : {V : _} → BranchOf V → ℕ → ℕ → ℕ → BranchOf V
branch_written branch at rest value = with_child branch at (with_value (child_at branch at) rest value)

-- A node with another value at such a place.
abbrev pub kind_written : {V : _} → KindOf V → ℕ → ℕ → ℕ → KindOf V
kind_written (Imm head word) at rest value = Imm head value
kind_written (Leaf count block) at rest value = Leaf count (record block { words = slice_set block.words at value })
kind_written (Bit skipped block) at rest value = Bit skipped (record block { words = slice_set block.words at value })
kind_written (Branch b) at rest value = Branch (record b { value = branch_written b.value at rest value })

-- The value at such a place.
abbrev pub value_at : {V : _} → KindOf V → ℕ → ℕ → Option ℕ
value_at (Imm head word) at rest = Some word
value_at (Leaf count block) at rest = Some (slice_index block.words at)
value_at (Bit skipped block) at rest = Some (slice_index block.words at)
value_at (Branch b) at rest = value_of rest (child_at b.value at).pairs

-- A node has such a place, and the nodes below it aren't deeper than so many.
abbrev pub HasSeat : {V : _} → ℕ → ℕ → KindOf V → ℕ → Type 0
HasSeat words depth (Imm head word) at = Unit {0}
HasSeat words depth (Leaf count block) at = at < length block.words
HasSeat words depth (Bit skipped block) at = at < length block.words
HasSeat words depth (Branch b) at = (at < length b.value.children.items) × IsChild words b.value.width (child_at b.value at) × (b.value.width ≤ depth)

-- The root shows by itself that a key is absent: it is empty, or has another key alone.
abbrev pub root_misses : {V : _} → RootOf V → ℕ → Bool
root_misses Empty key = true
root_misses (One other value) key = not (other == key)
root_misses (Many child) key = false

-- A root that has the key alone, or a child, with another value of it.
abbrev pub root_written : {V : _} → RootOf V → ℕ → ℕ → RootOf V
root_written Empty key value = Empty
root_written (One other old) key value = One other value
root_written (Many child) key value = Many (with_value child key value)
