use Rattle.std.proofs.Common.{sym}
use Rattle.judy_bits.proofs.BitLemmas.{ones_word}
use Rattle.judy_bits.proofs.bits.count.Goals as goal

pub returns : goal.returns
returns c = sym (ones_word c.args.word c.ranges.word.fits)
