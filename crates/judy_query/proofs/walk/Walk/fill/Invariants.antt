use Rattle.std.proofs.Common.{◌≡◌, ◌+◌, ◌-◌, ◌*◌, ◌<◌, ◌≤◌, ◌++◌, length}
use Rattle.judy_query.specs.Givings.{AreGiven}
use Rattle.judy_query.specs.Visits.{most_visits_below}
use Rattle.judy_query.specs.Walks.{waiting, AreTurns}
use Rattle.judy_query.proofs.walk.Walk.fill.Given as goal

abbrev pub invariant-loop-count : goal.invariant-loop-count
invariant-loop-count g l = record {
  turns : AreTurns g.V.Words.WORDS 0 l.self-inside.turns.items;
  given : AreGiven g.E.FromPair.made l.fn.self (l.self-inside.stretch ++ waiting l.self-inside.turns.items) l.fn.out l.out l.count;
  emptied : l.count < length l.fn.out → length l.self-inside.stretch ≡ 0;
  visits : l.meter ≤ l.fn.meter + most_visits_below * l.count;
  no_fewer : l.fn.meter ≤ l.meter;
}

abbrev pub decreases-loop-count : goal.decreases-loop-count
decreases-loop-count g l = length l.initial.out - l.count
