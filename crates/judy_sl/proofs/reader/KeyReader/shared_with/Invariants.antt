use Rattle.std.proofs.Common.{◌≡◌, ◌+◌, ◌-◌, ◌≤◌, length}
use Rattle.judy_sl.specs.Readers.{shared_left, ends_left}
use Rattle.judy_sl.proofs.lemmas.readers.TextSteps.{how_long}
use Rattle.judy_sl.proofs.reader.KeyReader.shared_with.Given as goal

-- What was read is shared, and what more is shared is left.
abbrev pub invariant-pieces : goal.invariant-pieces
invariant-pieces l = record {
  within : length l.rest ≤ length l.fn.bytes;
  shared : shared_left l.fn.self.left l.fn.bytes ≡ length l.fn.bytes - length l.rest + shared_left l.self.left l.rest;
  ends : ends_left l.fn.self.left l.fn.bytes ≡ ends_left l.self.left l.rest;
  value : l.self.value ≡ l.fn.self.value;
}

abbrev pub decreases-pieces : goal.decreases-pieces
decreases-pieces l = how_long l.self.left
