-- Leaves as trees.
use Rattle.std.specs.Prelude.{ℕ, ◌-◌, ◌*◌, [], ◌∷◌}
use Rattle.judy_model.specs.WordBytes.{low_bytes}
use Rattle.judy_model.specs.Forms.{leaf, bitmap_leaf}
use Rattle.judy_leaf.specs.KeyLists.{KeyList, keys_of, shift}
use Rattle.judy_node.specs.Trees.{Tree}

-- The tree that is one leaf.
abbrev pub one_leaf : KeyList → Tree
one_leaf list = record { width = list.width; pairs = list.pairs; form = leaf (keys_of list.pairs) ∷ [] }

-- The tree that is one bitmap leaf: its last bytes stand behind skipped bytes that spell a number.
abbrev pub one_bitmap : ℕ → KeyList → Tree
one_bitmap skipped list = record {
  width = list.width;
  pairs = shift (skipped * 256) list.pairs;
  form = bitmap_leaf (low_bytes (list.width - 1) skipped) (keys_of list.pairs) ∷ [];
}
