use Rattle.std.proofs.Common.{◌/◌, ap}
use Rattle.judy_bits.proofs.ShiftLemmas.{byte_digits}
use Rattle.judy_bits.proofs.word.without_tail.Goals as goal

pub returns : goal.returns
returns c = ap (λ unit. c.args.word / unit) (byte_digits c.args.width)
