use Rattle.std.proofs.Common.{◌≡◌}
use Rattle.judy_sl.proofs.lemmas.readers.TextSteps.{how_long}
use Rattle.judy_sl.proofs.reader.KeyReader.value.Given as goal

abbrev pub invariant-pieces : goal.invariant-pieces
invariant-pieces l = l.reader.value ≡ l.fn.self.value

abbrev pub decreases-pieces : goal.decreases-pieces
decreases-pieces l = how_long l.reader.left
