use Rattle.judy_leaf.proofs.BitLists.{bit_set}
use Rattle.judy_leaf.proofs.bit_ref.BitRef.law.Goals as goal

pub returns : goal.returns
returns g c = bit_set g.V.Words.WORDS c.self.inside.block.now c.self.invariant c.args.self.now c.self.view_is
