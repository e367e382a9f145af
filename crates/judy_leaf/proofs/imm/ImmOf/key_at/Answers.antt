use Rattle.std.proofs.Common.{◌<◌, slice_index, ap, sym, subst, ◌∙◌}
use Rattle.judy_leaf.proofs.ImmLists.{imm_keys, imm_length}
use Rattle.judy_leaf.proofs.imm.ImmOf.key_at.Goals as goal

pub key_at-requires-clause-inside : goal.key_at-requires-clause-inside
key_at-requires-clause-inside g c =
    subst (λ n. c.args.at < n) (imm_length g.V.Words.WORDS c.self.inside.width c.self.inside.count c.self.inside.keys c.self.inside.value c.self.invariant c.args.self.now c.self.view_is ∙
    sym c.from.ensures) c.requires

pub returns : goal.returns
returns g c =
    c.key_at.ensures ∙ ap (λ keys. slice_index keys c.args.at) (imm_keys g.V.Words.WORDS c.self.inside.width c.self.inside.count c.self.inside.keys c.self.inside.value
    c.self.invariant c.args.self.now c.self.view_is c.from.result c.from.ensures)
