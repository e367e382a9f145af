use Rattle.std.proofs.Common.{arith}
use Rattle.judy_records.proofs.PageStands.{seen-long, seen-value}
use Rattle.judy_records.proofs.page.Page.value.Goals as goal

pub overflow_mul-place : goal.overflow_mul-place
overflow_mul-place c =
    omega (arith, seen-long c.self.inside c.self.invariant c.self.view_is c.args.place c.requires, c.self.inside.words.ok, c.self.inside.words.small)

pub index-requires : goal.index-requires
index-requires c =
    omega (arith, seen-long c.self.inside c.self.invariant c.self.view_is c.args.place c.requires, c.self.inside.words.ok)

pub returns : goal.returns
returns c = seen-value c.self.inside c.self.invariant c.self.view_is c.args.place c.requires c.index.ensures
