use Rattle.std.proofs.Common.{rules}
use Rattle.judy_bits.proofs.byte_set.ByteSet.take.Goals as goal

pub returns : goal.returns
returns c = search rules
