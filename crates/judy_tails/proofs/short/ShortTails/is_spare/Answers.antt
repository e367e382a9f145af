use Rattle.std.proofs.Common.{arith}
use Rattle.judy_tails.proofs.ListLemmas.{seen-inside, list-held}
use Rattle.judy_tails.proofs.SpareTails.{text-short, free-beside}
use Rattle.judy_tails.proofs.short.ShortTails.is_spare.Goals as goal

pub index-list-requires : goal.index-list-requires
index-list-requires c = omega (arith, seen-inside c.self.inside.lists.items c.self.view_is c.args.place c.requires, c.self.inside.lists.ok)

pub text_law-requires : goal.text_law-requires
text_law-requires c = list-held c.self.inside.lists.items c.self.view_is c.args.place c.requires c.index-list.result.now c.index-list.ensures

pub is_spare-requires : goal.is_spare-requires
is_spare-requires c = list-held c.self.inside.lists.items c.self.view_is c.args.place c.requires c.index-list.result.now c.index-list.ensures

pub returns-clause-short : goal.returns-clause-short
returns-clause-short c =
    text-short c.self.inside.lists.items c.self.view_is c.self.invariant c.args.place c.requires c.index-list.result.now c.index-list.ensures c.text_law.ensures

pub returns-clause-free : goal.returns-clause-free
returns-clause-free c = λ is.
    free-beside c.self.inside.lists.items c.self.view_is c.self.invariant c.args.place c.requires c.index-list.result.now c.index-list.ensures c.text_law.ensures (c.is_spare.ensures.free is)
