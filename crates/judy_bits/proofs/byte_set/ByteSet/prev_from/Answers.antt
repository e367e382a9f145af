use Rattle.std.proofs.Common.{rules}
use Rattle.judy_bits.proofs.byte_set.ByteSet.prev_from.Goals as goal

pub returns-in-Bitmap : goal.returns-in-Bitmap
returns-in-Bitmap c = search rules
