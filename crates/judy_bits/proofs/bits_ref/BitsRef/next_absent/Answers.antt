use Rattle.std.proofs.Common.{rules}
use Rattle.judy_bits.proofs.bits_ref.BitsRef.next_absent.Goals as goal

pub returns : goal.returns
returns c = search rules
