use Rattle.std.proofs.Common.{◌+◌, ◌≤◌, sym, subst, ◌∙◌}
use Rattle.std.specs.List.{insert}
use Rattle.judy_leaf.specs.Immediates.{IsWordChange}
use Rattle.judy_leaf.proofs.ImmLists.{imm_length, imm_put, room_within}
use Rattle.judy_leaf.proofs.imm.ImmOf.insert_pair.Goals as goal

pub with_key-self-inside-requires-clause-room : goal.with_key-self-inside-requires-clause-room
with_key-self-inside-requires-clause-room g c =
    room_within g.V.Words.WORDS c.self.inside.width c.self.inside.count c.self.inside.keys c.self.inside.value c.self.invariant c.args.self.now c.self.view_is
    c.from.result c.from.ensures c.requires.room

pub with_key-self-inside-requires-clause-place : goal.with_key-self-inside-requires-clause-place
with_key-self-inside-requires-clause-place g c =
    subst (λ n. c.rank-at.result ≤ n) (imm_length g.V.Words.WORDS c.self.inside.width c.self.inside.count c.self.inside.keys c.self.inside.value c.self.invariant
    c.args.self.now c.self.view_is ∙ sym c.from.ensures) c.rank-at.ensures.within

pub invariant_of-self : goal.invariant_of-self
invariant_of-self g c =
    (imm_put g.V.Words.WORDS c.self.inside.width c.self.inside.count c.self.inside.keys c.self.inside.value c.self.invariant c.args.self.now c.self.view_is
    c.rank-at.result c.args.key c.args.value c.with_key-self-inside.result (subst (λ n. IsWordChange c.self.inside.width n (n + 1)
    (λ keys. insert keys c.rank-at.result c.args.key) c.self.inside.keys c.with_key-self-inside.result) c.from.ensures c.with_key-self-inside.ensures)
    c.rank-at.ensures.value c.requires.absent c.requires.room c.requires.no_value).0

pub returns : goal.returns
returns g c =
    (imm_put g.V.Words.WORDS c.self.inside.width c.self.inside.count c.self.inside.keys c.self.inside.value c.self.invariant c.args.self.now c.self.view_is
    c.rank-at.result c.args.key c.args.value c.with_key-self-inside.result (subst (λ n. IsWordChange c.self.inside.width n (n + 1)
    (λ keys. insert keys c.rank-at.result c.args.key) c.self.inside.keys c.with_key-self-inside.result) c.from.ensures c.with_key-self-inside.ensures)
    c.rank-at.ensures.value c.requires.absent c.requires.room c.requires.no_value).1
