-- A branch put above a node that skips bytes.
use Rattle.std.specs.Prelude.{◌≡◌, ℕ, ◌+◌, ◌-◌, ◌*◌, ◌/◌, ◌%◌, ◌^◌, ◌<◌, List, [], ◌∷◌, length}
use Rattle.judy_model.specs.WordBytes.{low_bytes, number_of}
use Rattle.judy_model.specs.Forms.{loose_in}
use Rattle.judy_leaf.specs.KeyLists.{shift}
use Rattle.judy_node.specs.Trees.{Tree, IsTight, forms_in, branch_pairs, IsBranch}
use Rattle.judy_node.specs.Kinds.{bit_width}
use Rattle.judy_node.specs.declared.child.KindOf.{KindOf}
use Rattle.judy_node.specs.declared.child.KindOf.TheVariants.{Imm, Leaf, Bit, Branch}

-- The node skips so many bytes, which spell this number, and its keys have so many bytes behind them.
abbrev pub IsSkipping : {V : _} → ℕ → ℕ → ℕ → KindOf V → Type 0
IsSkipping number count tail (Imm head word) = ⊥
IsSkipping number count tail (Leaf size block) = ⊥
IsSkipping number count tail (Bit skipped block) = (skipped ≡ number) × (bit_width block ≡ count + 1) × (tail ≡ 1)
IsSkipping number count tail (Branch b) = (number_of b.value.skip ≡ number) × (length b.value.skip ≡ count) × (tail ≡ 1 + b.value.width)

-- A node without the first of the bytes that it skips, so many of which are left.
pub record IsShorter (number left tail : ℕ) (old new : Tree) : Type 0 where
  pub wide : new.width ≡ left + tail
  pub pairs : old.pairs ≡ shift (number / 256 ^ left * 256 ^ (left + tail)) new.pairs
  pub loose : loose_in new.form ≡ loose_in old.form
  pub many : IsTight old → 32 < length old.pairs

-- A branch that has the same pairs as a node: it skips the first of the bytes that the node skips, its one child stands for the
-- next of them, and so many are left to that child.
pub record IsAbove (words number count tail left : ℕ) (old : Tree) (width : ℕ) (skip bytes : List ℕ) (kids : List Tree) (size : ℕ) : Type 0 where
  pub level : IsBranch words width skip bytes kids size
  pub width_is : width ≡ left + tail
  pub skip_is : skip ≡ low_bytes (count - left - 1) (number / 256 ^ (left + 1))
  pub bytes_are : bytes ≡ (number / 256 ^ left % 256) ∷ []
  pub pairs : branch_pairs width skip bytes kids ≡ old.pairs
  pub tight : IsTight old → loose_in (forms_in kids) ≡ 0
  pub many : IsTight old → 32 < size
