use Rattle.judy_bits.proofs.ShiftLemmas.{moved_twice}
use Rattle.judy_bits.proofs.word.moved_up.Goals as goal

pub returns : goal.returns
returns c = moved_twice c.args.word c.args.width c.requires.within
