use Rattle.judy_leaf.proofs.ImmLists.{imm_empty}
use Rattle.judy_leaf.proofs.imm.ImmOf.new.Goals as goal

pub invariant_of-result : goal.invariant_of-result
invariant_of-result g c = imm_empty g.V.Words.WORDS c.args.width c.requires.words c.requires.width
