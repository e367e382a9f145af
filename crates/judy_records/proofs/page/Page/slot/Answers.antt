use Rattle.std.proofs.Common.{ap, refl, ◌∙◌, arith}
use Rattle.judy_records.specs.PageSpots.{with_value_in}
use Rattle.judy_records.proofs.PageStands.{value-list, value-are, seen-held, seen-long, seen-value}
use Rattle.judy_records.proofs.page.Page.slot.Goals as goal

pub overflow_mul-place : goal.overflow_mul-place
overflow_mul-place c =
    omega (arith, seen-long c.self.inside c.self.invariant c.self.view_is c.args.place c.requires, c.self.inside.words.ok, c.self.inside.words.small)

pub index_mut-requires : goal.index_mut-requires
index_mut-requires c =
    omega (arith, seen-long c.self.inside c.self.invariant c.self.view_is c.args.place c.requires, c.self.inside.words.ok)

pub invariant_of-self-lent : goal.invariant_of-self-lent
invariant_of-self-lent c =
    λ w. value-are c.self.inside c.self.invariant c.args.place (seen-held c.self.inside c.self.invariant c.self.view_is c.args.place c.requires) w

pub returns : goal.returns
returns c =
    let is = seen-held c.self.inside c.self.invariant c.self.view_is c.args.place c.requires in (
      (refl, λ w. value-list c.self.inside c.self.invariant c.args.place is w ∙ ap (λ page. with_value_in page c.args.place w) c.self.view_is),
      record {
        writes_back = tt;
        value = seen-value c.self.inside c.self.invariant c.self.view_is c.args.place c.requires c.index_mut.ensures.value;
      },
    )
