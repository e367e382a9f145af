use Rattle.std.proofs.Common.{◌+◌, ◌≤◌, ◌++◌}
use Rattle.judy_leaf.specs.KeyLists.{shift}
use Rattle.judy_node.specs.Views.{view_pairs}
use Rattle.judy_query.specs.Parts.{width_of}
use Rattle.judy_query.specs.Walks.{waiting}
use Rattle.judy_query.proofs.WalkFacts.{IsWalked}
use Rattle.judy_query.proofs.walk.first_of.Given as goal

abbrev pub invariant-down : goal.invariant-down
invariant-down g l =
    IsWalked g.V.Words.WORDS l.view l.base l.turns.items (shift l.fn.start (view_pairs l.fn.top) ++ waiting l.initial.turns.items) ×
    (l.meter + width_of l.view ≤ l.initial.meter + width_of l.fn.top) × (l.initial.meter ≤ l.meter)

abbrev pub decreases-down : goal.decreases-down
decreases-down g l = width_of l.view
