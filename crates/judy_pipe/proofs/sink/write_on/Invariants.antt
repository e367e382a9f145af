use Rattle.std.proofs.Common.{length, take, drop, ◌-◌, ◌≡◌, ◌+◌, ◌≤◌, ◌*◌}
use Rattle.judy_pipe.specs.Pipe.{grown}
use Rattle.judy_pipe.proofs.sink.write_on.Given as goal

-- so far the bytes from the first place up to `count` were taken, and no failure was counted
abbrev pub invariant-loop-count : goal.invariant-loop-count
invariant-loop-count g l = record {
  begun : l.fn.count ≤ l.count;
  within : l.count ≤ length l.bytes;
  taken : g.W.Sink.taken l.sink ≡ grown (g.W.Sink.taken l.fn.sink) (take (l.count - l.fn.count) (drop l.fn.count l.bytes));
  failures : (g.W.Sink.tally l.sink).failures ≡ l.before;
  before : l.before ≡ (g.W.Sink.tally l.fn.sink).failures;
}

-- a byte that is taken outweighs all interruptions in a row, and an interruption leaves fewer
abbrev pub decreases-loop-count : goal.decreases-loop-count
decreases-loop-count g l =
    1001 * (length l.bytes - l.count) + (1000 - (g.W.Sink.tally l.sink).interruptions)
