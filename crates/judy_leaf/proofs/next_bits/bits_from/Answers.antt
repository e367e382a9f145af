use Rattle.std.proofs.Common.{sym, ap, ◌∙◌}
use Rattle.std.specs.Int.{bit_at}
use Rattle.judy_leaf.proofs.NextBits.{bits_gone, bits_kept, bits_up}
use Rattle.judy_leaf.proofs.next_bits.bits_from.Goals as goal

pub returns-clause-gone : goal.returns-clause-gone
returns-clause-gone c = λ at below. sym (ap (λ n. bit_at n at) (bits_up c.args.word c.args.from c.requires)) ∙ bits_gone c.args.word c.args.from c.requires at below

pub returns-clause-same : goal.returns-clause-same
returns-clause-same c = λ at inside from. sym (ap (λ n. bit_at n at) (bits_up c.args.word c.args.from c.requires)) ∙ bits_kept c.args.word c.args.from c.requires at inside from
