use Rattle.std.proofs.Common.{set, ap, ◌∙◌, arith}
use Rattle.judy_records.specs.Spots.{free}
use Rattle.judy_records.specs.PageSpots.{PageList}
use Rattle.judy_records.proofs.PageStands.{taken-spots, taken-next, taken-are, spare-fits, seen-held, seen-long}
use Rattle.judy_records.proofs.page.Page.take_out.Goals as goal

pub overflow_mul-place : goal.overflow_mul-place
overflow_mul-place c =
    omega (arith, seen-long c.self.inside c.self.invariant c.self.view_is c.args.place c.requires, c.self.inside.words.ok, c.self.inside.words.small)

pub index_mut-requires : goal.index_mut-requires
index_mut-requires c =
    omega (arith, seen-long c.self.inside c.self.invariant c.self.view_is c.args.place c.requires, c.self.inside.words.ok)

pub overflow_add-self : goal.overflow_add-self
overflow_add-self c = (let fits = spare-fits c.self.inside c.self.invariant in omega (arith, fits))

pub invariant_of-self : goal.invariant_of-self
invariant_of-self c = taken-are c.self.inside c.self.invariant c.args.place (seen-held c.self.inside c.self.invariant c.self.view_is c.args.place c.requires)

pub returns-clause-spots : goal.returns-clause-spots
returns-clause-spots c =
    taken-spots c.self.inside c.self.invariant c.args.place (seen-held c.self.inside c.self.invariant c.self.view_is c.args.place c.requires)
    ∙ ap (λ (page : PageList). set page.spots c.args.place (free 0)) c.self.view_is

pub returns-clause-next : goal.returns-clause-next
returns-clause-next c = taken-next c.self.inside c.self.invariant c.args.place (seen-held c.self.inside c.self.invariant c.self.view_is c.args.place c.requires)
