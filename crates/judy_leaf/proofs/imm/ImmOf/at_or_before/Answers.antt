use Rattle.judy_leaf.proofs.ImmLists.{imm_stands}
use Rattle.judy_leaf.proofs.Nearest.{place_inside, previous_is, previous_is_none}
use Rattle.judy_leaf.proofs.imm.ImmOf.at_or_before.Goals as goal

pub value_at-requires : goal.value_at-requires
value_at-requires g c =
    place_inside (imm_stands g.V.Words.WORDS c.self.inside.width c.self.inside.count c.self.inside.keys c.self.inside.value c.self.invariant c.args.self.now
    c.self.view_is c.from.result c.from.ensures) c.args.number (c.in-Some.at, c.in-Some.key) c.in-Some.ensures.key

pub returns-in-Some : goal.returns-in-Some
returns-in-Some g c =
    previous_is (imm_stands g.V.Words.WORDS c.self.inside.width c.self.inside.count c.self.inside.keys c.self.inside.value c.self.invariant c.args.self.now
    c.self.view_is c.from.result c.from.ensures) c.args.number (c.in-Some.at, c.in-Some.key) c.value_at.result c.in-Some.ensures c.value_at.ensures

pub returns-in-None : goal.returns-in-None
returns-in-None g c =
    previous_is_none (imm_stands g.V.Words.WORDS c.self.inside.width c.self.inside.count c.self.inside.keys c.self.inside.value c.self.invariant c.args.self.now
    c.self.view_is c.from.result c.from.ensures) c.args.number c.in-None.ensures
