use Rattle.std.proofs.Common.{ℕ, Option, IsSome, arith, subst}
use Rattle.judy_sums.proofs.SumsLemmas.{get_is, number_is, lowered_is}
use Rattle.judy_sums.proofs.sums.Sums.lower.Goals as goal

pub lower-requires-clause-there : goal.lower-requires-clause-there
lower-requires-clause-there c = subst (λ (found : Option ℕ). IsSome found) (get_is c.self.inside.chunks c.args.self.now c.self.invariant c.self.view_is c.args.word) c.requires.there

pub lower-requires-clause-some : goal.lower-requires-clause-some
lower-requires-clause-some c =
    let number = number_is c.self.inside.chunks c.args.self.now c.self.invariant c.self.view_is c.args.word in
    let some = c.requires.some in
    omega arith

pub returns : goal.returns
returns c = lowered_is c.self.inside.chunks c.args.self.now c.self.invariant c.self.view_is c.lower.new.chunks c.args.word c.lower.ensures.lowered
