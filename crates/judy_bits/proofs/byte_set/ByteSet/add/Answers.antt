use Rattle.std.proofs.Common.{rules}
use Rattle.judy_bits.proofs.byte_set.ByteSet.add.Goals as goal

pub returns : goal.returns
returns c = search rules
