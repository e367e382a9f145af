-- A pair put into a tree.
use Rattle.std.specs.Prelude.{◌≡◌, ◌≢◌, ℕ, ◌+◌, ◌/◌, ◌^◌, ◌≤◌, Bool, true, false, Result, Ok, Err}
use Rattle.judy_bits.specs.ByteSets.{has}
use Rattle.judy_leaf.specs.KeyLists.{keys_of, with_pair}
use Rattle.judy_model.specs.WordBytes.{number_of}
use Rattle.judy_node.specs.Trees.{Tree, IsTight}
use Rattle.judy_node.specs.declared.child.KindOf.{KindOf}
use Rattle.judy_node.specs.declared.child.KindOf.TheVariants.{Imm, Leaf, Bit, Branch}

-- The tree has the key.
abbrev pub has_key : ℕ → Tree → Bool
has_key key tree = has (keys_of tree.pairs) key

-- A key that was absent stands in its place with its value, and no other pair is another; a tight tree is tight still.
pub record IsAdded (key value : ℕ) (old new : Tree) : Type 0 where
  pub absent : has_key key old ≡ false
  pub pairs : new.pairs ≡ with_pair key value old.pairs
  pub tight : IsTight old → IsTight new

-- What an insert answers and leaves: true where the key was added; false where it was there; an error, for an absent key alone. In
-- the last two cases the tree is the old one, its form included.
abbrev pub IsInserted : {E : Type 0} → ℕ → ℕ → Tree → Tree → Result Bool E → Type 0
IsInserted key value old new (Ok true) = IsAdded key value old new
IsInserted key value old new (Ok false) = (has_key key old ≡ true) × (new ≡ old)
IsInserted key value old new (Err refused) = (has_key key old ≡ false) × (new ≡ old)

-- A key has no room in a node, or is there already: it is a full leaf, or a bitmap leaf or a branch that skips bytes that the key doesn't
-- begin with.
abbrev pub IsPast : {V : _} → ℕ → KindOf V → Type 0
IsPast key (Imm head word) = ⊥
IsPast key (Leaf count block) = 32 ≤ count
IsPast key (Bit skipped block) = key / 256 ≢ skipped
IsPast key (Branch b) = key / 256 ^ (1 + b.value.width) ≢ number_of b.value.skip
