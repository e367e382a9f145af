use Rattle.std.proofs.Common.{◌-◌, ◌*◌, ◌/◌, ◌%◌, ◌^◌, ap, ◌∙◌}
use Rattle.std.proofs.lemmas.Nat.{and_mask}
use Rattle.judy_bits.proofs.ShiftLemmas.{byte_digits}
use Rattle.judy_bits.proofs.word.byte_of.Goals as goal

pub returns : goal.returns
returns c = and_mask (c.args.word / 2 ^ (8 * (7 - c.args.i))) 8 ∙ ap (λ unit. c.args.word / unit % 256) (byte_digits (7 - c.args.i))
