use Rattle.std.proofs.Common.{◌≤◌}
use Rattle.judy_records.specs.InTurns.{AreTurned, AreExchanged}
use Rattle.judy_records.proofs.turns.sort_in.Given as goal

-- the pages so far have the turns below the next one, and those of the part alone have changed
abbrev pub invariant-loop-page : goal.invariant-loop-page
invariant-loop-page l = record {
  least : l.start ≤ l.turn;
  turned : AreTurned l.row;
  exchanged : AreExchanged l.start l.end l.fn.row l.row;
}
