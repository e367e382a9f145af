use Rattle.std.proofs.Common.{ap, ◌∙◌}
use Rattle.judy_bits.specs.ByteSets as set
use Rattle.judy_leaf.proofs.ImmLists.{imm_keys}
use Rattle.judy_leaf.proofs.imm.ImmOf.find.Goals as goal

pub returns : goal.returns
returns g c =
    c.find.ensures ∙ ap (λ keys. set.place keys c.args.key) (imm_keys g.V.Words.WORDS c.self.inside.width c.self.inside.count c.self.inside.keys c.self.inside.value
    c.self.invariant c.args.self.now c.self.view_is c.from.result c.from.ensures)
