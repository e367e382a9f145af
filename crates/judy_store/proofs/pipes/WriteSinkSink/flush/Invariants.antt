use Rattle.std.proofs.Common.{◌-◌, ◌≡◌}
use Rattle.judy_store.proofs.pipes.WriteSinkSink.flush.Given as goal

-- so far no failure was counted
abbrev pub invariant-loop-error : goal.invariant-loop-error
invariant-loop-error g l = record {
  failures : l.self.tally.failures ≡ l.before;
  before : l.before ≡ l.fn.self.tally.failures;
}

-- each interruption leaves fewer to come
abbrev pub decreases-loop-error : goal.decreases-loop-error
decreases-loop-error g l = 1000 - l.self.tally.interruptions
