-- Where the search for a neighbour turns off the way of its key.
use Rattle.std.specs.Prelude.{◌≡◌, ℕ, ◌+◌, ◌-◌, ◌*◌, ◌^◌, ◌<◌, ◌≤◌, length, take, drop, slice_get, Option, Some, None}
use Rattle.judy_model.specs.WordBytes.{number_of}
use Rattle.judy_bits.specs.ByteSets.{rank}
use Rattle.judy_leaf.specs.KeyLists.{shift}
use Rattle.judy_node.specs.Trees.{Pairs, join, IsBranch}
use Rattle.judy_node.specs.declared.child.BranchOf.{BranchOf}
use Rattle.judy_node.specs.declared.step.Step.{Step}
use Rattle.judy_query.specs.declared.sides.Side.{Side}
use Rattle.judy_query.specs.declared.sides.Side.TheVariants.{Up, Down}
use Rattle.judy_query.specs.declared.turns.Turn.{Turn}
use Rattle.judy_query.specs.Parts.{passed, reached, byte_passed, byte_behind}

-- The pairs of the child that a turn leads to, as the tree has them.
abbrev pub turn_pairs : {V : _} → Turn V → Pairs
turn_pairs turn =
    shift turn.base (join (256 ^ turn.branch.now.width) (number_of turn.branch.now.skip * 256) (take 1 (drop turn.place turn.branch.now.bytes))
    (take 1 (drop turn.place turn.branch.now.children.items)))

-- A turn leads to a child of a branch, whose keys begin at a word and fit the words.
pub record IsTurn {V : _} (words : ℕ) (turn : Turn V) : Type 0 where
  pub branch : IsBranch words turn.branch.now.width turn.branch.now.skip turn.branch.now.bytes turn.branch.now.children.items turn.branch.now.population
  pub inside : turn.place < length turn.branch.now.children.items
  pub fits : turn.base + 256 ^ (length turn.branch.now.skip + 1 + turn.branch.now.width) ≤ 256 ^ 8

-- The last of some pairs.
abbrev pub last_pair : Pairs → Option (ℕ × ℕ)
last_pair pairs = slice_get pairs (length pairs - 1)

-- What is behind the way, at its nearest: the first pair of the child that the turn leads to; nothing where there is no turn.
abbrev pub later_pair : {V : _} → Option (Turn V) → Option (ℕ × ℕ)
later_pair None = None
later_pair (Some turn) = slice_get (turn_pairs turn) 0

-- What is in front of the way, at its nearest: the last pair of that child.
abbrev pub earlier_pair : {V : _} → Option (Turn V) → Option (ℕ × ℕ)
earlier_pair None = None
earlier_pair (Some turn) = last_pair (turn_pairs turn)

-- The child that a turn leads to is the first from its edge on.
abbrev pub IsFirst : {V : _} → Turn V → Type 0
IsFirst turn = turn.place ≡ rank turn.branch.now.bytes turn.edge

-- It is the last below its edge.
abbrev pub IsLast : {V : _} → Turn V → Type 0
IsLast turn = (turn.place + 1 ≡ rank turn.branch.now.bytes turn.edge) × (turn.edge ≤ 256)

-- A turn, where there is one, to what is behind the way.
abbrev pub IsLater : {V : _} → ℕ → Option (Turn V) → Type 0
IsLater words None = Unit {0}
IsLater words (Some turn) = IsTurn words turn × IsFirst turn

-- A turn, where there is one, to what is in front of it.
abbrev pub IsEarlier : {V : _} → ℕ → Option (Turn V) → Type 0
IsEarlier words None = Unit {0}
IsEarlier words (Some turn) = IsTurn words turn × IsLast turn

-- ---- on either side

-- The edge of the turn to the nearest child beside a key, by the key's step.
abbrev pub edge_of : Side → Step → ℕ
edge_of Up step = byte_behind step
edge_of Down step = byte_passed step

-- Those children of a branch are below that edge that the step tells.
abbrev pub IsStepEdge : {V : _} → Side → BranchOf V → Step → Type 0
IsStepEdge Up branch step = reached (length branch.children.items) step ≡ rank branch.bytes (byte_behind step)
IsStepEdge Down branch step = (passed (length branch.children.items) step ≡ rank branch.bytes (byte_passed step)) × (byte_passed step ≤ 256)

-- The place of that child, of so many in all; none where there is none on that side.
abbrev pub IsPlaceBeside : Side → ℕ → Step → Option ℕ → Type 0
IsPlaceBeside Up all step None = all ≤ reached all step
IsPlaceBeside Up all step (Some place) = (place ≡ reached all step) × (place < all)
IsPlaceBeside Down all step None = passed all step ≡ 0
IsPlaceBeside Down all step (Some place) = place + 1 ≡ passed all step

-- A turn, where there is one, to what is beside the way.
abbrev pub IsTurnTo : {V : _} → Side → ℕ → Option (Turn V) → Type 0
IsTurnTo Up words turn = IsLater words turn
IsTurnTo Down words turn = IsEarlier words turn

-- What is beside the way, at its nearest.
abbrev pub turn_pair : {V : _} → Side → Option (Turn V) → Option (ℕ × ℕ)
turn_pair Up turn = later_pair turn
turn_pair Down turn = earlier_pair turn

-- The pair among others that is met first from that side of a way.
abbrev pub nearest_pair : Side → Pairs → Option (ℕ × ℕ)
nearest_pair Up pairs = slice_get pairs 0
nearest_pair Down pairs = last_pair pairs

-- The pairs of the children beside a key in a branch, by the key's step, where the branch's keys begin at a base.
abbrev pub pairs_beside : {V : _} → Side → BranchOf V → Step → ℕ → Pairs
pairs_beside Up branch step base =
    let first = reached (length branch.children.items) step in
    shift base (join (256 ^ branch.width) (number_of branch.skip * 256) (drop first branch.bytes) (drop first branch.children.items))
pairs_beside Down branch step base =
    let count = passed (length branch.children.items) step in
    shift base (join (256 ^ branch.width) (number_of branch.skip * 256) (take count branch.bytes) (take count branch.children.items))
