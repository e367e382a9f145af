-- What a walk through a tree has still to give.
use Rattle.std.specs.Prelude.{◌≡◌, ℕ, suc, ◌+◌, ◌*◌, ◌^◌, ◌≤◌, List, [], ◌∷◌, ◌++◌, length, drop, Option, Some, None}
use Rattle.judy_model.specs.WordBytes.{number_of}
use Rattle.judy_bits.specs.ByteSets.{rank}
use Rattle.judy_leaf.specs.KeyLists.{shift, keys_of}
use Rattle.judy_node.specs.Trees.{Pairs, join}
use Rattle.judy_node.specs.Views.{view_pairs}
use Rattle.judy_node.specs.declared.view.ViewOf.{ViewOf}
use Rattle.judy_node.specs.declared.view.ViewOf.TheVariants.{Null, One, Imm, Leaf, BitLeaf, Branch}
use Rattle.judy_query.specs.declared.turns.Turn.{Turn}
use Rattle.judy_query.specs.Parts.{IsEnd, IsShown, width_of}
use Rattle.judy_query.specs.Turns.{IsTurn, IsFirst}

-- The pairs of the child that a turn leads to and of those behind it in its branch, as the tree has them.
abbrev pub rest_of_turn : {V : _} → Turn V → Pairs
rest_of_turn turn = shift turn.base (join (256 ^ turn.branch.now.width) (number_of turn.branch.now.skip * 256) (drop turn.place turn.branch.now.bytes) (drop turn.place turn.branch.now.children.items))

-- The same, and none where there is no turn.
abbrev pub rest_if_any : {V : _} → Option (Turn V) → Pairs
rest_if_any None = []
rest_if_any (Some turn) = rest_of_turn turn

-- The pairs that turns lead to, of which the last one stands lowest in the tree, and comes first.
abbrev pub waiting : {V : _} → List (Option (Turn V)) → Pairs
waiting [] = []
waiting (turn ∷ turns) = waiting turns ++ rest_if_any turn

-- There is a turn behind so many others, and the nodes below its branch are few enough for one more each.
abbrev pub IsTurnBehind : {V : _} → ℕ → ℕ → Option (Turn V) → Type 0
IsTurnBehind words before None = ⊥
IsTurnBehind words before (Some turn) = IsTurn words turn × (before + 1 + turn.branch.now.width ≤ 8) × IsFirst turn

-- The turns of a walk, behind so many others.
abbrev pub AreTurns : {V : _} → ℕ → ℕ → List (Option (Turn V)) → Type 0
AreTurns words before [] = Unit {0}
AreTurns words before (turn ∷ turns) = IsTurnBehind words before turn × AreTurns words (suc before) turns

-- In a bitmap leaf the keys in front of a place are those below a byte.
abbrev pub IsScan : {V : _} → ViewOf V → ℕ → ℕ → Type 0
IsScan Null at byte = Unit {0}
IsScan (One key value) at byte = Unit {0}
IsScan (Imm list) at byte = Unit {0}
IsScan (Leaf list) at byte = Unit {0}
IsScan (BitLeaf skipped list) at byte = rank (keys_of list.pairs) byte ≡ at
IsScan (Branch b) at byte = Unit {0}

-- The pairs of a node that isn't a branch, from a place on, which a bitmap leaf has from a byte on: their keys begin at a base and fit the
-- words.
pub record IsStretch {V : _} (words : ℕ) (view : ViewOf V) (base at len byte : ℕ) : Type 0 where
  pub end : IsEnd view
  pub shown : IsShown words view
  pub fits : base + 256 ^ width_of view ≤ 256 ^ 8
  pub counted : len ≡ length (view_pairs view)
  pub within : at ≤ len
  pub scan : IsScan view at byte
