use Rattle.std.proofs.Common.{◌≡◌, ◌+◌, ◌<◌, ◌≤◌, length}
use Rattle.judy_node.specs.Views.{view_pairs}
use Rattle.judy_query.specs.Parts.{IsDown, width_of}
use Rattle.judy_query.proofs.places.entry_further_down.Given as goal

abbrev pub invariant-down : goal.invariant-down
invariant-down g l = (down : IsDown g.V.Words.WORDS (view_pairs l.fn.top) l.view l.base 0) × (l.fn.place ≡ length down.front + l.left) × (l.left < length (view_pairs l.view)) ×
    (l.meter + width_of l.view ≤ l.initial.meter + width_of l.fn.top) × (l.initial.meter ≤ l.meter)

abbrev pub decreases-down : goal.decreases-down
decreases-down g l = width_of l.view
