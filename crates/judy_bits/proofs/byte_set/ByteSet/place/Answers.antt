use Rattle.std.proofs.Common.{rules}
use Rattle.judy_bits.proofs.byte_set.ByteSet.place.Goals as goal

pub returns-in-Linear : goal.returns-in-Linear
returns-in-Linear c = search rules
