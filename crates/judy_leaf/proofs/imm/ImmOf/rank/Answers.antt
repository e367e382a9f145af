use Rattle.std.proofs.Common.{ap, ◌∙◌}
use Rattle.judy_bits.specs.ByteSets as set
use Rattle.judy_leaf.proofs.ImmLists.{imm_keys, imm_rank}
use Rattle.judy_leaf.proofs.imm.ImmOf.rank.Goals as goal

pub returns-clause-value : goal.returns-clause-value
returns-clause-value g c =
    c.rank.ensures ∙ ap (λ keys. set.rank keys c.args.key) (imm_keys g.V.Words.WORDS c.self.inside.width c.self.inside.count c.self.inside.keys c.self.inside.value
    c.self.invariant c.args.self.now c.self.view_is c.from.result c.from.ensures)

pub returns-clause-within : goal.returns-clause-within
returns-clause-within g c =
    imm_rank g.V.Words.WORDS c.self.inside.width c.self.inside.count c.self.inside.keys c.self.inside.value c.self.invariant c.args.self.now c.self.view_is c.rank.result c.args.key
    (c.rank.ensures ∙ ap (λ keys. set.rank keys c.args.key) (imm_keys g.V.Words.WORDS c.self.inside.width c.self.inside.count c.self.inside.keys c.self.inside.value
    c.self.invariant c.args.self.now c.self.view_is c.from.result c.from.ensures))
