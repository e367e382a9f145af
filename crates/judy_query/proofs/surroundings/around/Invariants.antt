use Rattle.std.proofs.Common.{◌≡◌, ◌+◌, ◌≤◌, slice_get}
use Rattle.judy_node.specs.declared.view.ViewOf.TheVariants.{Branch}
use Rattle.judy_query.specs.Parts.{IsDown, width_of}
use Rattle.judy_query.specs.Turns.{later_pair, IsLater}
use Rattle.judy_query.proofs.surroundings.around.Given as goal

abbrev pub invariant-down : goal.invariant-down
invariant-down g l = (down : IsDown g.V.Words.WORDS l.tree.pairs (Branch l.at.0) l.key l.at.1) × (slice_get down.back 0 ≡ later_pair l.later) ×
    IsLater g.V.Words.WORDS l.later × (l.meter + width_of (Branch l.at.0) ≤ l.fn.meter + 9) × (l.fn.meter ≤ l.meter)

abbrev pub decreases-down : goal.decreases-down
decreases-down g l = width_of (Branch l.at.0)
