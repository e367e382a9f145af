-- What it means to take the keys around a key out of a tree.
use Rattle.std.specs.Prelude.{◌≡◌, ℕ, ◌+◌, ◌^◌, ◌≤◌, ◌&&◌, if◌then◌else◌, Bool, true, Some, None, [], ◌∷◌, length, slice_get}
use Rattle.std.specs.Ordering.{is_le}
use Rattle.judy_model.specs.Keys.{word_order}
use Rattle.judy_node.specs.Trees.{Pairs, Tree, IsTight, IsChild}
use Rattle.judy_node.specs.Branches.{IsWholeBranch}
use Rattle.judy_node.specs.declared.child.BranchOf.{BranchOf}
use Rattle.judy_change.specs.declared.around.Cleared.{Cleared}
use Rattle.judy_change.specs.declared.around.Cut.{Cut}
use Rattle.judy_change.specs.declared.around.Cut.TheVariants as cut
use Rattle.judy_change.specs.declared.removed.Taken.{Taken}
use Rattle.judy_change.specs.declared.removed.Taken.TheVariants as taken
use Rattle.judy_change.specs.Removals.{value_in, pairs_below, loose_below, width_of, IsSame}

-- Whether a word stands around a key: no further below it than `before`, and no further above it than `after`.
abbrev pub is_around : ℕ → ℕ → ℕ → ℕ → Bool
is_around key before after other = is_le (word_order key (other + before)) && is_le (word_order other (key + after))

-- The pairs whose keys don't.
abbrev pub beyond : ℕ → ℕ → ℕ → Pairs → Pairs
beyond key before after [] = []
beyond key before after (pair ∷ pairs) = if is_around key before after pair.0 then beyond key before after pairs else pair ∷ beyond key before after pairs

-- Keys around one are taken out of a tree, so many, and it is among them where it was there; the keys that don't stand around it
-- stay. A tight tree stays tight where there was memory for each smaller node that was wanted.
pub record IsCleared (key before after : ℕ) (old new : Tree) (cleared : Cleared) : Type 0 where
  pub stay : beyond key before after new.pairs ≡ beyond key before after old.pairs
  pub counted : length new.pairs + cleared.count ≡ length old.pairs
  pub some : cleared.count ≡ 0 → value_in old.pairs key ≡ None
  pub tight : IsTight old → cleared.shrunk ≡ true → IsTight new

-- ---- below the root

-- A node below the root without so many keys around one, beside others that stay.
pub record IsThinned (words width key before after : ℕ) (old new : Tree) (count : ℕ) (shrunk : Bool) : Type 0 where
  pub stay : beyond key before after new.pairs ≡ beyond key before after old.pairs
  pub counted : length new.pairs + count ≡ length old.pairs
  pub some : 1 ≤ count
  pub two : 3 ≤ length old.pairs → 2 ≤ length new.pairs
  pub child : IsChild words width new
  pub tight : IsTight old → shrunk ≡ true → IsTight new

-- What becomes of a node below the root.
abbrev pub IsCut : ℕ → ℕ → ℕ → ℕ → ℕ → Tree → Tree → Cut → Type 0
IsCut words width key before after old new cut.Absent = (value_in old.pairs key ≡ None) × (new ≡ old)
IsCut words width key before after old new cut.Only = (beyond key before after old.pairs ≡ []) × (length old.pairs ≡ 1) × (new ≡ old)
IsCut words width key before after old new (cut.Gone count shrunk) = IsThinned words width key before after old new count shrunk

-- What one key taken out of a node is.
abbrev pub one_cut : Taken → Cut
one_cut taken.Absent = cut.Absent
one_cut (taken.Only value) = cut.Only
one_cut (taken.Gone value shrunk) = cut.Gone 1 shrunk

-- Keys stay.
abbrev pub IsPartial : Cut → Type 0
IsPartial cut.Absent = Unit {0}
IsPartial cut.Only = ⊥
IsPartial (cut.Gone count shrunk) = Unit {0}

-- What a cut is that leaves keys.
abbrev pub cleared_of : Cut → Cleared
cleared_of cut.Absent = record { count = 0; shrunk = true }
cleared_of cut.Only = record { count = 0; shrunk = true }
cleared_of (cut.Gone count shrunk) = record { count = count; shrunk = shrunk }

-- ---- branches

-- The same of a branch, which may be loose itself.
pub record IsThinnedBelow {V : _} (words key before after : ℕ) (old new : BranchOf V) (count : ℕ) (shrunk : Bool) : Type 0 where
  pub stay : beyond key before after (pairs_below new) ≡ beyond key before after (pairs_below old)
  pub counted : new.population + count ≡ old.population
  pub some : 1 ≤ count
  pub two : 3 ≤ old.population → 2 ≤ new.population
  pub branch : IsWholeBranch words new
  pub width : width_of new ≡ width_of old
  pub tight : loose_below old ≡ 0 → shrunk ≡ true → loose_below new ≡ 0

-- What becomes of a branch.
abbrev pub IsCutBelow : {V : _} → ℕ → ℕ → ℕ → ℕ → BranchOf V → BranchOf V → Cut → Type 0
IsCutBelow words key before after old new cut.Absent = (value_in (pairs_below old) key ≡ None) × IsSame words old new
IsCutBelow words key before after old new cut.Only = (beyond key before after (pairs_below old) ≡ []) × (old.population ≡ 1) × IsSame words old new
IsCutBelow words key before after old new (cut.Gone count shrunk) = IsThinnedBelow words key before after old new count shrunk

-- A child goes whole: all keys that it may have stand around the key, of which `rest` is left there, and two keys stay beside it.
pub record IsWhole {V : _} (branch : BranchOf V) (place rest before after count : ℕ) : Type 0 where
  pub kid : Tree
  pub there : slice_get branch.children.items place ≡ Some kid
  pub low : rest ≤ before
  pub high : 256 ^ branch.width ≤ rest + after + 1
  pub counted : count ≡ length kid.pairs
  pub others : count + 2 ≤ branch.population
