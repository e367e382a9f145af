use Rattle.judy_bits.proofs.ShiftLemmas.{shifted_twice}
use Rattle.judy_bits.proofs.word.without_low.Goals as goal

pub returns : goal.returns
returns c = shifted_twice c.args.word c.args.width
