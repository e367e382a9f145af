-- What it means to take a key out of a tree.
use Rattle.std.specs.Prelude.{◌≡◌, ◌≢◌, ℕ, ◌+◌, ◌^◌, ◌<◌, ◌≤◌, ◌==◌, if◌then◌else◌, Bool, true, false, Option, Some, None, [], ◌∷◌, length}
use Rattle.judy_model.specs.Forms.{loose_in}
use Rattle.judy_model.specs.Shapes.{immediate_limit}
use Rattle.judy_model.specs.Ways.{alike}
use Rattle.judy_leaf.specs.KeyLists.{keys_of}
use Rattle.judy_leaf.specs.BitLeaves.{bit_list}
use Rattle.judy_node.specs.Trees.{Pairs, Tree, IsTight, IsChild, branch_pairs, forms_in}
use Rattle.judy_node.specs.Branches.{IsWholeBranch, tree_below}
use Rattle.judy_node.specs.declared.child.BranchOf.{BranchOf}
use Rattle.judy_node.specs.declared.child.KindOf.{KindOf}
use Rattle.judy_node.specs.declared.child.KindOf.TheVariants.{Imm, Leaf, Bit, Branch}
use Rattle.judy_change.specs.declared.removed.Removed.{Removed}
use Rattle.judy_change.specs.declared.removed.Taken.{Taken}
use Rattle.judy_change.specs.declared.removed.Taken.TheVariants.{Absent, Only, Gone}

-- The value of a key among pairs; none where it isn't there.
abbrev pub value_in : Pairs → ℕ → Option ℕ
value_in [] key = None
value_in (pair ∷ pairs) key = if pair.0 == key then Some pair.1 else value_in pairs key

-- The pairs without that of a key.
abbrev pub without : ℕ → Pairs → Pairs
without key [] = []
without key (pair ∷ pairs) = if pair.0 == key then without key pairs else pair ∷ without key pairs

-- How many keys are the same as a key but for their lowest bytes; `unit` is 256 to the number of these.
abbrev pub sharing : ℕ → ℕ → Pairs → ℕ
sharing unit key pairs = alike unit key (keys_of pairs)

-- Exactly 33 keys are the same as a key but for some number of lowest bytes. In a tight tree these are the keys of a node on
-- the key's way (laws.rt), since a node's keys are those that share the bytes above its own.
pub record Has33 (width : ℕ) (pairs : Pairs) (key : ℕ) : Type 0 where
  pub bytes : ℕ
  pub within : bytes ≤ width
  pub count : sharing (256 ^ bytes) key pairs ≡ 33

-- A key is taken out of a tree: its pair is gone, and nothing else. An absent key changes nothing. A tight tree stays tight where
-- there was memory for each smaller node that was wanted on the way, and such memory can be short only where a node there had 33 keys.
-- (That the larger node stays then is this project's own.)
pub record IsRemoved (key : ℕ) (old new : Tree) (removed : Removed) : Type 0 where
  pub found : value_in old.pairs key ≡ (if removed.was then Some removed.value else None)
  pub gone : new.pairs ≡ without key old.pairs
  pub zero_value : removed.was ≡ false → removed.value ≡ 0
  pub same : removed.was ≡ false → new ≡ old
  pub whole : removed.was ≡ false → removed.shrunk ≡ true
  pub tight : IsTight old → removed.shrunk ≡ true → IsTight new
  pub short : IsTight old → removed.shrunk ≡ false → Has33 8 old.pairs key

-- ---- below the root

-- A node below the root without a key that it had beside others.
pub record IsGone (words width key : ℕ) (old new : Tree) (value : ℕ) (shrunk : Bool) : Type 0 where
  pub found : value_in old.pairs key ≡ Some value
  pub gone : new.pairs ≡ without key old.pairs
  pub child : IsChild words width new
  pub tight : IsTight old → shrunk ≡ true → IsTight new
  pub short : IsTight old → shrunk ≡ false → Has33 width old.pairs key

-- What becomes of a node below the root.
abbrev pub IsTaken : ℕ → ℕ → ℕ → Tree → Tree → Taken → Type 0
IsTaken words width key old new Absent = (value_in old.pairs key ≡ None) × (new ≡ old)
IsTaken words width key old new (Only value) = (old.pairs ≡ (key, value) ∷ []) × (new ≡ old)
IsTaken words width key old new (Gone value shrunk) = IsGone words width key old new value shrunk

-- A node of some pairs, and a tight one.
pub record IsTightOf (words width : ℕ) (pairs : Pairs) (new : Tree) : Type 0 where
  pub child : IsChild words width new
  pub same : new.pairs ≡ pairs
  pub tight : IsTight new

-- A node of some pairs that may be larger than they need: made as small as they allow, or left where there is no memory for
-- that. `loose` is how many of the nodes below it are loose.
pub record IsSettled (words width : ℕ) (pairs : Pairs) (loose : ℕ) (new : Tree) (shrunk : Bool) : Type 0 where
  pub child : IsChild words width new
  pub same : new.pairs ≡ pairs
  pub tight : loose ≡ 0 → shrunk ≡ true → IsTight new
  pub short : shrunk ≡ false → length pairs ≤ 32

-- ---- branches

-- The pairs below a branch.
abbrev pub pairs_below : {V : _} → BranchOf V → Pairs
pairs_below branch = branch_pairs branch.width branch.skip branch.bytes branch.children.items

-- How many nodes below a branch are loose.
abbrev pub loose_below : {V : _} → BranchOf V → ℕ
loose_below branch = loose_in (forms_in branch.children.items)

-- How many bytes its keys have.
abbrev pub width_of : {V : _} → BranchOf V → ℕ
width_of branch = length branch.skip + 1 + branch.width

-- A branch below which a key is gone. It may be loose itself.
pub record IsGoneBelow {V : _} (words key : ℕ) (old new : BranchOf V) (value : ℕ) (shrunk : Bool) : Type 0 where
  pub found : value_in (pairs_below old) key ≡ Some value
  pub gone : pairs_below new ≡ without key (pairs_below old)
  pub branch : IsWholeBranch words new
  pub width : width_of new ≡ width_of old
  pub tight : loose_below old ≡ 0 → shrunk ≡ true → loose_below new ≡ 0
  pub short : loose_below old ≡ 0 → shrunk ≡ false → Has33 (width_of old) (pairs_below old) key

-- A branch that is the same tree as before.
pub record IsSame {V : _} (words : ℕ) (old new : BranchOf V) : Type 0 where
  pub branch : IsWholeBranch words new
  pub tree : tree_below new ≡ tree_below old

-- What becomes of a branch.
abbrev pub IsTakenBelow : {V : _} → ℕ → ℕ → BranchOf V → BranchOf V → Taken → Type 0
IsTakenBelow words key old new Absent = (value_in (pairs_below old) key ≡ None) × IsSame words old new
IsTakenBelow words key old new (Only value) = (pairs_below old ≡ (key, value) ∷ []) × IsSame words old new
IsTakenBelow words key old new (Gone value shrunk) = IsGoneBelow words key old new value shrunk

-- The node has no children.
abbrev pub IsChildless : {V : _} → KindOf V → Type 0
IsChildless (Imm head word) = Unit {0}
IsChildless (Leaf count block) = Unit {0}
IsChildless (Bit skipped block) = Unit {0}
IsChildless (Branch b) = ⊥

-- The node has no children, and may become one of another kind where it loses a key: it is an immediate, has at most one key more
-- than an immediate holds, or is a bitmap leaf of at most 33 keys.
abbrev pub IsShrinking : {V : _} → ℕ → ℕ → KindOf V → Type 0
IsShrinking words width (Imm head word) = Unit {0}
IsShrinking words width (Leaf count block) = count ≤ immediate_limit words width + 1
IsShrinking words width (Bit skipped block) = length (bit_list words block).pairs ≤ 33
IsShrinking words width (Branch b) = ⊥

-- The node has children.
abbrev pub IsParent : {V : _} → KindOf V → Type 0
IsParent kind = IsChildless kind → ⊥

-- How many nodes below a node are loose.
abbrev pub loose_under : {V : _} → KindOf V → ℕ
loose_under (Imm head word) = 0
loose_under (Leaf count block) = 0
loose_under (Bit skipped block) = 0
loose_under (Branch b) = loose_below b.value

-- Whether a branch has more than 32 keys and not just one child.
abbrev pub IsNeeded : {V : _} → KindOf V → Bool → Type 0
IsNeeded (Imm head word) needed = ⊥
IsNeeded (Leaf count block) needed = ⊥
IsNeeded (Bit skipped block) needed = ⊥
IsNeeded (Branch b) true = (32 < b.value.population) × (length b.value.children.items ≢ 1)
IsNeeded (Branch b) false = 32 < b.value.population → length b.value.children.items ≡ 1
