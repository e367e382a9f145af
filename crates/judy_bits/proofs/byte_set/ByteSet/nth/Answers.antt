use Rattle.std.proofs.Common.{rules}
use Rattle.judy_bits.proofs.byte_set.ByteSet.nth.Goals as goal

pub returns-in-Bitmap : goal.returns-in-Bitmap
returns-in-Bitmap c = search rules
