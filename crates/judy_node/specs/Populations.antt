-- How many keys children have.
use Rattle.std.specs.Prelude.{◌≡◌, ℕ, ◌+◌, ◌*◌, ◌<◌, ◌≤◌, List, [], ◌∷◌, length, take, get_or, sum, Some, IfSome, slice_get}
use Rattle.judy_node.specs.Trees.{Tree}
use Rattle.judy_node.specs.declared.sums.Sums.{Sums}

-- The keys below children.
abbrev pub population : List Tree → ℕ
population [] = 0
population (kid ∷ kids) = length kid.pairs + population kids

-- The keys below the first children, so many.
abbrev pub keys_before : ℕ → List Tree → ℕ
keys_before place kids = population (take place kids)

-- The child at a place has the n-th key of all, as its own key number `left`, both counted from 0.
pub record HoldsNth (kids : List Tree) (n place left : ℕ) (kid : Tree) : Type 0 where
  pub there : slice_get kids place ≡ Some kid
  pub counted : n ≡ keys_before place kids + left
  pub inside : left < length kid.pairs

-- ---- sums

-- Sums by sixteens: all 256 children stand, and the sums before a group come to the keys before its first child.
pub record AreGroups (sums : List ℕ) (kids : List Tree) : Type 0 where
  pub all : length kids ≡ 256
  pub groups : length sums ≡ 16
  pub each : (group : ℕ) → group ≤ 16 → sum (take group sums) ≡ keys_before (16 * group) kids

-- A branch has no sums, or those of its children.
abbrev pub AreSums : Sums → List Tree → Type 0
AreSums sums kids = IfSome sums.groups (λ groups. AreGroups groups.value kids)

-- A group has the n-th key of all, as its own key number `left`, both counted from 0.
pub record IsInGroup (sums : List ℕ) (n group left : ℕ) : Type 0 where
  pub there : group < length sums
  pub counted : n ≡ sum (take group sums) + left
  pub inside : left < get_or sums group 0
