use Rattle.judy_sl.specs.Settled.{IsSettled}
use Rattle.judy_sl.proofs.arena.Arena.settle_all.Given as goal

abbrev pub invariant-levels : goal.invariant-levels
invariant-levels l = IsSettled l.fn.self l.self
