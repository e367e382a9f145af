use Rattle.std.proofs.Common.{length}
use Rattle.judy_sl.proofs.lemmas.removals.Shrinks.{IsClearing}
use Rattle.judy_sl.proofs.arena.Arena.clear.Given as goal

abbrev pub invariant-loop-level : goal.invariant-loop-level
invariant-loop-level l = IsClearing l.fn.self l.self l.at l.rest

abbrev pub decreases-loop-level : goal.decreases-loop-level
decreases-loop-level l = length l.rest
