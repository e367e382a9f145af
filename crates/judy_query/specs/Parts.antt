-- Where a node stands in the tree above it, as those who go down the tree see it.
use Rattle.std.specs.Prelude.{◌≡◌, ℕ, suc, ◌+◌, ◌-◌, ◌*◌, ◌^◌, ◌<◌, ◌≤◌, List, ◌++◌, length, slice_get, Option, Some}
use Rattle.std.specs.Option.{option_map}
use Rattle.std.specs.FinMap.Entries.{find}
use Rattle.judy_model.specs.Keys.{word_order}
use Rattle.judy_leaf.specs.KeyLists.{shift}
use Rattle.judy_node.specs.Trees.{Pairs, IsMap}
use Rattle.judy_node.specs.Views.{view_pairs, IsPlace}
use Rattle.judy_node.specs.declared.step.Step.{Step}
use Rattle.judy_node.specs.declared.step.Step.TheVariants.{Child, Missing, Below, Above}
use Rattle.judy_node.specs.declared.view.ViewOf.{ViewOf}
use Rattle.judy_node.specs.declared.view.ViewOf.TheVariants.{Null, One, Imm, Leaf, BitLeaf, Branch}

-- The value of a key among pairs; none where it is absent.
abbrev pub value_of : Pairs → ℕ → Option ℕ
value_of pairs key = find word_order key pairs

-- A pair with its key so much higher.
abbrev pub raised : ℕ → Option (ℕ × ℕ) → Option (ℕ × ℕ)
raised by found = option_map (λ pair. (by + pair.0, pair.1)) found

-- The pairs of a tree are those in front of a part, the part's, and those behind it. The part's keys are counted from `base` on, there
-- are `unit` words for them, and the tree's keys are below `top`.
pub record IsPart (words top : ℕ) (tree : Pairs) (base unit : ℕ) (pairs front back : Pairs) : Type 0 where
  pub fits : base + unit ≤ top
  pub same : tree ≡ front ++ (shift base pairs ++ back)
  pub before : IsMap words 0 base front
  pub after : IsMap words (base + unit) top back

-- ---- steps

-- A step leads to no child.
abbrev pub IsBeside : Step → Type 0
IsBeside (Child byte place rest) = ⊥
IsBeside (Missing byte place rest) = Unit {0}
IsBeside Below = Unit {0}
IsBeside Above = Unit {0}

-- How many of a branch's children, so many in all, are before a key that such a step was made with.
abbrev pub passed : ℕ → Step → ℕ
passed all (Child byte place rest) = place
passed all (Missing byte place rest) = place
passed all Below = 0
passed all Above = all

-- How many of them aren't above the key.
abbrev pub reached : ℕ → Step → ℕ
reached all (Child byte place rest) = suc place
reached all (Missing byte place rest) = place
reached all Below = 0
reached all Above = all

-- Below which byte the children before the key are.
abbrev pub byte_passed : Step → ℕ
byte_passed (Child byte place rest) = byte
byte_passed (Missing byte place rest) = byte
byte_passed Below = 0
byte_passed Above = 256

-- From which byte on the children above the key are.
abbrev pub byte_behind : Step → ℕ
byte_behind (Child byte place rest) = byte + 1
byte_behind (Missing byte place rest) = byte + 1
byte_behind Below = 0
byte_behind Above = 256

-- Where the keys of the child at a place begin.
abbrev pub IsStart : ℕ → ℕ → List ℕ → ℕ → ℕ → Type 0
IsStart unit block bytes place start = (byte : ℕ) × (slice_get bytes place ≡ Some byte) × (start ≡ (block + byte) * unit)

-- ---- views

-- How many bytes the keys of a node that was entered have.
abbrev pub width_of : {V : _} → ViewOf V → ℕ
width_of Null = 8
width_of (One key value) = 8
width_of (Imm list) = list.width
width_of (Leaf list) = list.width
width_of (BitLeaf skipped list) = list.width
width_of (Branch b) = length b.now.skip + 1 + b.now.width

-- The node isn't a branch.
abbrev pub IsEnd : {V : _} → ViewOf V → Type 0
IsEnd Null = Unit {0}
IsEnd (One key value) = Unit {0}
IsEnd (Imm list) = Unit {0}
IsEnd (Leaf list) = Unit {0}
IsEnd (BitLeaf skipped list) = Unit {0}
IsEnd (Branch b) = ⊥

-- What a node that was entered shows.
pub record IsShown {V : _} (words : ℕ) (view : ViewOf V) : Type 0 where
  pub some : 1 ≤ width_of view
  pub narrow : width_of view ≤ 8
  pub map : IsMap words 0 (256 ^ width_of view) (view_pairs view)
  pub place : IsPlace words (width_of view) view

-- The way of a key down a tree has come to a node: so much is left of the key there, and the node's pairs are a part of the tree's.
pub record IsDown {V : _} (words : ℕ) (tree : Pairs) (view : ViewOf V) (key left : ℕ) : Type 0 where
  pub above : left ≤ key
  pub inside : left < 256 ^ width_of view
  pub shown : IsShown words view
  pub front : Pairs
  pub back : Pairs
  pub part : IsPart words (256 ^ 8) tree (key - left) (256 ^ width_of view) (view_pairs view) front back
