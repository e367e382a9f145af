use Rattle.std.proofs.Common.{Some, ap, sym, ◌∙◌, subst, arith}
use Rattle.judy_records.specs.Spots.{value_of, text_of}
use Rattle.judy_records.specs.Texts.{text_in}
use Rattle.judy_tails.specs.Inside.{IsPadded}
use Rattle.judy_tails.proofs.ListLemmas.{seen-inside, list-held, list-whole, list-tail}
use Rattle.judy_tails.proofs.short.ShortTails.at.Goals as goal

pub index-requires : goal.index-requires
index-requires c = omega (arith, seen-inside c.self.inside.lists.items c.self.view_is c.args.place c.requires, c.self.inside.lists.ok)

pub at-requires : goal.at-requires
at-requires c = list-held c.self.inside.lists.items c.self.view_is c.args.place c.requires c.index.result.now c.index.ensures

pub new-requires : goal.new-requires
new-requires c = subst IsPadded (sym c.at.ensures) (list-whole c.self.inside.lists.items c.self.view_is c.args.place c.requires c.index.result.now c.index.ensures c.self.invariant)

pub returns : goal.returns
returns c =
    list-tail c.self.inside.lists.items c.self.view_is c.args.place c.requires c.index.result.now c.index.ensures
    ∙ ap Some (ap (λ spot. (text_in (text_of spot), value_of spot)) (sym c.at.ensures) ∙ sym c.new.ensures)
