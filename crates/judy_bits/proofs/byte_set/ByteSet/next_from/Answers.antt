use Rattle.std.proofs.Common.{rules}
use Rattle.judy_bits.proofs.byte_set.ByteSet.next_from.Goals as goal

pub returns-in-Full : goal.returns-in-Full
returns-in-Full c = search rules
