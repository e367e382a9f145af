use Rattle.std.proofs.Common.{drop}
use Rattle.judy_sl.proofs.lemmas.counts.Stepping.{IsStepping}
use Rattle.judy_sl.proofs.arena.Arena.count_places.Given as goal

abbrev pub invariant-loop-at : goal.invariant-loop-at
invariant-loop-at l = IsStepping l.comes l.fn.self l.self (drop l.at-index l.places) l.places
