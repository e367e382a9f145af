use Rattle.std.proofs.Common.{◌≡◌, ◌+◌, ◌≤◌, length}
use Rattle.judy_query.specs.Parts.{IsDown, width_of}
use Rattle.judy_query.specs.Walks.{waiting, AreTurns}
use Rattle.judy_query.proofs.walk.seek.Given as goal

abbrev pub invariant-down : goal.invariant-down
invariant-down g l = (down : IsDown g.V.Words.WORDS l.tree.pairs l.view l.key l.left) × (down.back ≡ waiting l.turns.items) × AreTurns g.V.Words.WORDS 0 l.turns.items ×
    (length l.turns.items + width_of l.view ≤ 8) × (l.meter + width_of l.view ≤ l.initial.meter + 8) × (l.initial.meter ≤ l.meter)

abbrev pub decreases-down : goal.decreases-down
decreases-down g l = width_of l.view
