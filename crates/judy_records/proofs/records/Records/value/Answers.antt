use Rattle.std.proofs.Common.{ap, ◌∙◌, arith}
use Rattle.judy_records.specs.Spots.{value_of}
use Rattle.judy_records.proofs.ListHolds.{shift-fits, seen-there, seen-held, seen-spot}
use Rattle.judy_records.proofs.records.Records.value.Goals as goal

pub locate-at-requires : goal.locate-at-requires
locate-at-requires c = shift-fits c.self.inside c.self.invariant

pub index-requires : goal.index-requires
index-requires c = omega (arith, seen-there c.self.inside c.self.invariant c.self.view_is c.args.place c.requires c.locate-at.ensures, c.self.inside.pages.ok)

pub value-requires : goal.value-requires
value-requires c = seen-held c.self.inside c.self.invariant c.self.view_is c.args.place c.requires c.locate-at.ensures c.index.result.now c.index.ensures

pub returns : goal.returns
returns c =
    c.value.ensures
    ∙ ap value_of (seen-spot c.self.inside c.self.invariant c.self.view_is c.args.place c.requires c.locate-at.ensures c.index.result.now c.index.ensures)
