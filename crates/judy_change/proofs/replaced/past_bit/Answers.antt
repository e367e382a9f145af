use Rattle.judy_change.proofs.InsertFacts.{bit_absent}
use Rattle.judy_change.proofs.replaced.past_bit.Goals as goal

pub split-requires-clause-absent : goal.split-requires-clause-absent
split-requires-clause-absent g c = bit_absent g.V.Words.WORDS c.args.head c.args.pair.key c.args.block c.requires.apart

pub split-requires-clause-room : goal.split-requires-clause-room
split-requires-clause-room g c = c.requires.room (bit_absent g.V.Words.WORDS c.args.head c.args.pair.key c.args.block c.requires.apart)
