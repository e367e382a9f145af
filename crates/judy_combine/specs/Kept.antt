-- What is kept of two nodes.
use Rattle.std.specs.Prelude.{◌≡◌, ℕ, ◌+◌, ◌*◌, ◌^◌, ◌<◌, ◌≤◌, ◌||◌, false, IsTrue, List, [], length, Option, Some, None}
use Rattle.judy_model.specs.Forms.{loose_in}
use Rattle.judy_model.specs.Shapes.{AllBelow}
use Rattle.judy_model.specs.WordBytes.{number_of}
use Rattle.judy_bits.specs.ByteSets.{has}
use Rattle.judy_node.specs.Trees.{Tree, IsTight, IsMap, IsChild, AreChildren, join, forms_in, branch_pairs}
use Rattle.judy_node.specs.Branches.{IsWholeBranch}
use Rattle.judy_node.specs.Populations.{AreSums}
use Rattle.judy_node.specs.declared.child.BranchOf.{BranchOf}
use Rattle.judy_query.specs.Parts.{value_of}
use Rattle.judy_combine.specs.Merges.{Pairs, pick}
use Rattle.judy_combine.specs.declared.keep.Keep.{Keep}

-- At each key there is what is kept of what two lists of pairs have there.
abbrev pub AreKept : Keep → Pairs → Pairs → Pairs → Type 0
AreKept keep one other out = (key : ℕ) → value_of out key ≡ pick keep (value_of one key) (value_of other key)

-- A tight node of what is kept, for keys of a width.
pub record IsKeptNode (words width : ℕ) (keep : Keep) (one other : Pairs) (tree : Tree) : Type 0 where
  pub child : IsChild words width tree
  pub tight : IsTight tree
  pub kept : AreKept keep one other tree.pairs

-- It, or none where nothing is kept.
abbrev pub IsKept : ℕ → ℕ → Keep → Pairs → Pairs → Option Tree → Type 0
IsKept words width keep one other None = AreKept keep one other []
IsKept words width keep one other (Some tree) = IsKeptNode words width keep one other tree

-- ---- branches

-- The pairs of a branch.
abbrev pub pairs_of : {V : _} → BranchOf V → Pairs
pairs_of branch = branch_pairs branch.width branch.skip branch.bytes branch.children.items

-- How many bytes its keys have.
abbrev pub width_of : {V : _} → BranchOf V → ℕ
width_of branch = length branch.skip + 1 + branch.width

-- A branch whose children are tight.
pub record IsBelowTight {V : _} (words : ℕ) (branch : BranchOf V) : Type 0 where
  pub level : IsWholeBranch words branch
  pub tight : loose_in (forms_in branch.children.items) ≡ 0

-- Two branches whose keys begin with the same bytes, which their children leave out.
pub record AreLevel {V : _} (one other : BranchOf V) : Type 0 where
  pub width : one.width ≡ other.width
  pub number : number_of one.skip ≡ number_of other.skip

-- The child that is kept for a byte of two branches, whose children's keys have so many words each; none where there is none.
abbrev pub IsKeptAt : ℕ → ℕ → ℕ → Keep → Pairs → Pairs → ℕ → Option Tree → Type 0
IsKeptAt words width block keep one other byte None =
    (rest : ℕ) → rest < 256 ^ width → pick keep (value_of one ((block + byte) * 256 ^ width + rest)) (value_of other ((block + byte) * 256 ^ width + rest)) ≡ None
IsKeptAt words width block keep one other byte (Some kid) =
    IsChild words width kid × IsTight kid ×
    ((rest : ℕ) → rest < 256 ^ width →
    value_of kid.pairs rest ≡ pick keep (value_of one ((block + byte) * 256 ^ width + rest)) (value_of other ((block + byte) * 256 ^ width + rest)))

-- Neither of two sets of bytes has one from a byte on, below another.
abbrev pub IsGap : List ℕ → List ℕ → ℕ → ℕ → Type 0
IsGap one other from to = (byte : ℕ) → from ≤ byte → byte < to → (has one byte ≡ false) × (has other byte ≡ false)

-- The least byte from one on that either set has; none where neither has one there.
abbrev pub IsNextByte : List ℕ → List ℕ → ℕ → Option ℕ → Type 0
IsNextByte one other from None = IsGap one other from 256
IsNextByte one other from (Some byte) = (from ≤ byte) × IsTrue (has one byte || has other byte) × IsGap one other from byte

-- The children of the bytes below one are made, and so many keys they have, by what a word tells.
pub record AreKeptTo (words width block : ℕ) (keep : Keep) (one other : Pairs) (bytes : List ℕ) (kids : List Tree) (next : ℕ) : Type 0 where
  pub children : AreChildren words width 0 bytes kids
  pub before : AllBelow next bytes
  pub tight : loose_in (forms_in kids) ≡ 0
  pub kept : (key : ℕ) → key < (block + next) * 256 ^ width → value_of (join (256 ^ width) block bytes kids) key ≡ pick keep (value_of one key) (value_of other key)

-- So many keys are kept that a word tells their number.
abbrev pub IsCountable : ℕ → ℕ → Keep → Pairs → Pairs → Type 0
IsCountable words width keep one other = (pairs : Pairs) → IsMap words 0 (256 ^ width) pairs → AreKept keep one other pairs → length pairs < 2 ^ 64

-- A branch of what is kept of two others, which isn't settled yet.
pub record IsKeptBranch {V : _} (words : ℕ) (keep : Keep) (one other : Pairs) (width : ℕ) (branch : BranchOf V) : Type 0 where
  pub level : IsWholeBranch words branch
  pub sums : AreSums branch.sums branch.children.items
  pub wide : width_of branch ≡ width
  pub tight : loose_in (forms_in branch.children.items) ≡ 0
  pub kept : AreKept keep one other (pairs_of branch)

-- It, or none where nothing is kept.
abbrev pub IsBranchKept : {V : _} → ℕ → Keep → Pairs → Pairs → ℕ → Option (BranchOf V) → Type 0
IsBranchKept words keep one other width None = AreKept keep one other []
IsBranchKept words keep one other width (Some branch) = IsKeptBranch words keep one other width branch
