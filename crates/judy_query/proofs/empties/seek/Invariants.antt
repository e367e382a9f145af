use Rattle.std.proofs.Common.{◌≡◌, ◌+◌, ◌-◌, ◌^◌, ◌≤◌, MatchOption}
use Rattle.judy_node.specs.declared.view.ViewOf.TheVariants.{Branch}
use Rattle.judy_query.specs.Parts.{IsDown, width_of}
use Rattle.judy_query.specs.Rooms.{IsNearestRoom, IsPassed, IsRoomPast}
use Rattle.judy_query.proofs.empties.seek.Given as goal

abbrev pub invariant-down : goal.invariant-down
invariant-down g l =
    IsDown g.V.Words.WORDS l.tree.pairs (Branch l.at.0) l.key l.at.1
    × ((room : _) → IsNearestRoom l.side g.V.Words.WORDS l.above l.beside room → IsRoomPast l.side g.V.Words.WORDS l.tree.pairs 0 (2 ^ 64) (l.key - l.at.1) (256 ^ width_of (Branch l.at.0)) room)
    × MatchOption l.above Unit (IsPassed g.V.Words.WORDS)
    × (g.M.Sparing.visits l.meter + width_of (Branch l.at.0) ≤ g.M.Sparing.visits l.fn.meter + 9)
    × (g.M.Sparing.visits l.fn.meter ≤ g.M.Sparing.visits l.meter)
    × (g.M.Sparing.full l.meter ≡ g.M.Sparing.full l.fn.meter)

abbrev pub decreases-down : goal.decreases-down
decreases-down g l = width_of (Branch l.at.0)
