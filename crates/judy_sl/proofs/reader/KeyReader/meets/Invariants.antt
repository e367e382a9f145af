use Rattle.std.proofs.Common.{◌≡◌, ◌↔◌}
use Rattle.judy_sl.proofs.lemmas.readers.TextSteps.{how_long}
use Rattle.judy_sl.proofs.reader.KeyReader.meets.Given as goal

-- What is left to both is one where what was left was.
abbrev pub invariant-pieces : goal.invariant-pieces
invariant-pieces l = (l.key.left ≡ l.other) ↔ (l.fn.self.left ≡ l.fn.text)

abbrev pub decreases-pieces : goal.decreases-pieces
decreases-pieces l = how_long l.key.left
