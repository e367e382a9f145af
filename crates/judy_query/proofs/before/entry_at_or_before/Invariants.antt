use Rattle.std.proofs.Common.{◌≡◌, ◌+◌, ◌≤◌}
use Rattle.judy_node.specs.declared.view.ViewOf.TheVariants.{Branch}
use Rattle.judy_query.specs.Parts.{IsDown, width_of}
use Rattle.judy_query.specs.Turns.{last_pair, earlier_pair, IsEarlier}
use Rattle.judy_query.proofs.before.entry_at_or_before.Given as goal

abbrev pub invariant-down : goal.invariant-down
invariant-down g l = (down : IsDown g.V.Words.WORDS l.tree.pairs (Branch l.at.0) l.key l.at.1) × (last_pair down.front ≡ earlier_pair l.earlier) ×
    IsEarlier g.V.Words.WORDS l.earlier × (l.meter + width_of (Branch l.at.0) ≤ l.fn.meter + 9) × (l.fn.meter ≤ l.meter)

abbrev pub decreases-down : goal.decreases-down
decreases-down g l = width_of (Branch l.at.0)
