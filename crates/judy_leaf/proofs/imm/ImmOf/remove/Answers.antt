use Rattle.std.proofs.Common.{◌-◌, ◌<◌, sym, subst, ◌∙◌}
use Rattle.std.specs.List.{remove}
use Rattle.judy_leaf.specs.Immediates.{IsWordChange}
use Rattle.judy_leaf.proofs.ImmLists.{imm_length, imm_taken}
use Rattle.judy_leaf.proofs.imm.ImmOf.remove.Goals as goal

pub without_key-self-inside-requires-clause-inside : goal.without_key-self-inside-requires-clause-inside
without_key-self-inside-requires-clause-inside g c =
    subst (λ n. c.args.at < n) (imm_length g.V.Words.WORDS c.self.inside.width c.self.inside.count c.self.inside.keys c.self.inside.value c.self.invariant c.args.self.now c.self.view_is ∙
    sym c.from.ensures) c.requires

pub invariant_of-self : goal.invariant_of-self
invariant_of-self g c =
    (imm_taken g.V.Words.WORDS c.self.inside.width c.self.inside.count c.self.inside.keys c.self.inside.value c.self.invariant c.args.self.now c.self.view_is
    c.args.at c.without_key-self-inside.result (subst (λ n. IsWordChange c.self.inside.width n (n - 1) (λ keys. remove keys c.args.at) c.self.inside.keys c.without_key-self-inside.result)
    c.from.ensures c.without_key-self-inside.ensures) c.requires).0

pub returns : goal.returns
returns g c =
    (imm_taken g.V.Words.WORDS c.self.inside.width c.self.inside.count c.self.inside.keys c.self.inside.value c.self.invariant c.args.self.now c.self.view_is
    c.args.at c.without_key-self-inside.result (subst (λ n. IsWordChange c.self.inside.width n (n - 1) (λ keys. remove keys c.args.at) c.self.inside.keys c.without_key-self-inside.result)
    c.from.ensures c.without_key-self-inside.ensures) c.requires).1
