use Rattle.std.proofs.Common.{◌≡◌, ◌-◌, ◌≤◌, length, take}
use Rattle.judy_model.specs.Keys.{IsByteString}
use Rattle.judy_pipe.specs.Pipe.{grown}
use Rattle.judy_shelf.proofs.fields.read_pieces.Given as goal

-- so far the first bytes of the room were given, and no failure was counted
abbrev pub invariant-loop-filled : goal.invariant-loop-filled
invariant-loop-filled g l = record {
  within : l.filled ≤ length l.room;
  long : length l.room ≡ length l.fn.room;
  given : g.R.Source.given l.source ≡ grown (g.R.Source.given l.fn.source) (take l.filled l.room);
  bytes : IsByteString (take l.filled l.room);
  failures : (g.R.Source.tally l.source).failures ≡ (g.R.Source.tally l.fn.source).failures;
}

abbrev pub decreases-loop-filled : goal.decreases-loop-filled
decreases-loop-filled g l = length l.room - l.filled
