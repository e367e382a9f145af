use Rattle.std.proofs.Common.{◌≡◌, ◌+◌, ◌^◌, ◌≤◌}
use Rattle.judy_query.specs.Parts.{width_of}
use Rattle.judy_query.proofs.SideRooms.{IsNarrowed}
use Rattle.judy_query.proofs.empties.nearest_in.Given as goal

abbrev pub invariant-down : goal.invariant-down
invariant-down g l =
    IsNarrowed l.side g.V.Words.WORDS l.child.pairs (256 ^ l.width) l.view l.start
    × (l.wide ≡ width_of l.view)
    × (g.M.Sparing.visits l.meter + width_of l.view ≤ g.M.Sparing.visits l.initial.meter + l.width)
    × (width_of l.view ≤ l.width)
    × (g.M.Sparing.visits l.initial.meter ≤ g.M.Sparing.visits l.meter)
    × (g.M.Sparing.full l.meter ≡ g.M.Sparing.full l.fn.meter)

abbrev pub decreases-down : goal.decreases-down
decreases-down g l = width_of l.view
