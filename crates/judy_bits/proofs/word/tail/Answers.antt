use Rattle.std.proofs.Common.{◌*◌, ◌%◌, ap, ◌∙◌, bit_and}
use Rattle.std.proofs.lemmas.Nat.{and_mask}
use Rattle.judy_bits.proofs.ShiftLemmas.{byte_digits}
use Rattle.judy_bits.proofs.word.tail.Goals as goal

pub returns : goal.returns
returns c = ap (bit_and c.args.word) c.fewer_ones.ensures ∙ and_mask c.args.word (8 * c.args.width) ∙ ap (λ unit. c.args.word % unit) (byte_digits c.args.width)
