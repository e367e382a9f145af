use Rattle.judy_leaf.proofs.OneKey.{one_imm}
use Rattle.judy_leaf.proofs.imm.ImmOf.one.Goals as goal

pub invariant_of-result : goal.invariant_of-result
invariant_of-result g c = one_imm g.V.Words.WORDS c.args.width c.args.key c.requires.words c.requires.width c.requires.below
