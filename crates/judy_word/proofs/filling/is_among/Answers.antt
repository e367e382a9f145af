use Rattle.std.proofs.Common.{sym}
use Rattle.judy_word.proofs.FillingFacts.{none_yet, found_one}
use Rattle.judy_word.proofs.filling.is_among.Goals as goal

pub returns-then-pair-key : goal.returns-then-pair-key
returns-then-pair-key c = sym (found_one c.pairs.pair-index c.args.pairs.now (0, 0) c.args.key c.pairs-test.true c.if-pair-key.true)

pub pairs-preserved : goal.pairs-preserved
pairs-preserved c = none_yet c.pairs.pair-index c.args.pairs.now (0, 0) c.args.key c.pairs-test.true c.pairs.invariant c.if-pair-key.false
