-- How pairs are written into a slice.
use Rattle.std.specs.Prelude.{◌≡◌, ℕ, ◌≤◌, List, ◌++◌, length, take, drop}
use Rattle.judy_leaf.specs.Fills.{made_of}
use Rattle.judy_node.specs.Trees.{Pairs}

-- So many of some pairs, the first, are written to the front of a slice, behind which it stays, and the others are left.
pub record AreGiven {E : Type 0} (made : ℕ → ℕ → E) (all left : Pairs) (before after : List E) (count : ℕ) : Type 0 where
  pub within : count ≤ length before
  pub there : count ≤ length all
  pub out : after ≡ made_of made (take count all) ++ drop count before
  pub others : left ≡ drop count all
