use Rattle.std.proofs.Common.{◌-◌, ◌≡◌, Bool, true, Some}
use Rattle.judy_pipe.specs.Pipe.{told}
use Rattle.judy_pipe.proofs.source.read_some.Given as goal

-- so far no byte was given, and no failure was counted
abbrev pub invariant-loop-count : goal.invariant-loop-count
invariant-loop-count g l = record {
  given : g.R.Source.given l.source ≡ g.R.Source.given l.fn.source;
  ended : (end : Bool) → told (g.R.Source.ended l.source) end ≡ told (g.R.Source.ended l.fn.source) end;
  goes_on : g.R.Source.ended l.fn.source ≡ Some true → g.R.Source.ended l.source ≡ Some true;
  content : g.R.Source.content l.source ≡ g.R.Source.content l.fn.source;
  unfailing : g.R.Source.is_unfailing l.source ≡ g.R.Source.is_unfailing l.fn.source;
  failures : (g.R.Source.tally l.source).failures ≡ l.before;
  before : l.before ≡ (g.R.Source.tally l.fn.source).failures;
}

-- each interruption leaves fewer to come
abbrev pub decreases-loop-count : goal.decreases-loop-count
decreases-loop-count g l = 1000 - (g.R.Source.tally l.source).interruptions
