-- Where the way of a key ends: in a node, with what is left of the key there, or beside a child.
use Rattle.std.specs.Prelude.{ℕ, Option, Some, None}
use Rattle.judy_node.specs.Views.{view_pairs}
use Rattle.judy_node.specs.declared.view.ViewOf.{ViewOf}
use Rattle.judy_query.specs.Parts.{value_of, IsEnd, IsShown}

-- The node, if there is one, isn't a branch.
abbrev pub IsEndIfAny : {V : _} → ℕ → Option (ViewOf V × ℕ) → Type 0
IsEndIfAny words None = Unit {0}
IsEndIfAny words (Some end) = IsEnd end.0 × IsShown words end.0

-- The value that stands there: in the node, of what is left of the key. None where there is no node.
abbrev pub value_at : {V : _} → Option (ViewOf V × ℕ) → Option ℕ
value_at None = None
value_at (Some end) = value_of (view_pairs end.0) end.1
