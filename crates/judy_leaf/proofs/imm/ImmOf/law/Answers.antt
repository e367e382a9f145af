use Rattle.judy_leaf.proofs.Bounds.{imm_keys}
use Rattle.judy_leaf.proofs.imm.ImmOf.law.Goals as goal

pub returns : goal.returns
returns g c = imm_keys g.V.Words.WORDS c.self.inside.width c.self.inside.count c.self.inside.keys c.self.inside.value c.args.self.now c.self.invariant c.self.view_is
