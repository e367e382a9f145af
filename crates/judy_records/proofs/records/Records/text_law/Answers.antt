use Rattle.std.proofs.Common.{length, ap, sym, ◌∙◌, arith}
use Rattle.judy_records.specs.Spots.{RecordList, text_of}
use Rattle.judy_records.proofs.ListHolds.{shift-fits, seen-there, seen-held, seen-spot, seen-size}
use Rattle.judy_records.proofs.records.Records.text_law.Goals as goal

pub locate-at-requires : goal.locate-at-requires
locate-at-requires c = shift-fits c.self.inside c.self.invariant

pub index-requires : goal.index-requires
index-requires c = omega (arith, seen-there c.self.inside c.self.invariant c.self.view_is c.args.place c.requires c.locate-at.ensures, c.self.inside.pages.ok)

pub text_law-requires : goal.text_law-requires
text_law-requires c = seen-held c.self.inside c.self.invariant c.self.view_is c.args.place c.requires c.locate-at.ensures c.index.result.now c.index.ensures

pub returns : goal.returns
returns c =
    ap (λ spot. length (text_of spot)) (sym (seen-spot c.self.inside c.self.invariant c.self.view_is c.args.place c.requires c.locate-at.ensures c.index.result.now c.index.ensures))
    ∙ c.text_law.ensures
    ∙ seen-size c.self.inside c.self.invariant c.self.view_is c.args.place c.requires c.locate-at.ensures c.index.result.now c.index.ensures
    ∙ ap (λ (list : RecordList). list.size) c.self.view_is
