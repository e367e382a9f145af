use Rattle.std.proofs.Common.{length, ap, ◌∙◌}
use Rattle.judy_leaf.proofs.BitsMet.{members_of-together}
use Rattle.judy_leaf.proofs.bit_ref.in_both.Goals as goal

pub returns : goal.returns
returns c = c.len.ensures.count ∙ ap length (c.of_words.ensures ∙ members_of-together c.args.one.now c.args.other.now)
