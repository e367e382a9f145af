use Rattle.std.proofs.Common.{arith}
use Rattle.judy_tails.proofs.ListLemmas.{seen-inside, list-held, gone-are, gone-updates}
use Rattle.judy_tails.proofs.short.ShortTails.remove.Goals as goal

pub index_mut-list-requires : goal.index_mut-list-requires
index_mut-list-requires c = omega (arith, seen-inside c.self.inside.lists.items c.self.view_is c.args.place c.requires, c.self.inside.lists.ok)

pub remove-requires : goal.remove-requires
remove-requires c = list-held c.self.inside.lists.items c.self.view_is c.args.place c.requires c.index_mut-list.result.now c.index_mut-list.ensures.value

pub invariant_of-self : goal.invariant_of-self
invariant_of-self c =
    gone-are c.self.inside.lists.items c.self.view_is c.args.place c.requires c.index_mut-list.result.now c.index_mut-list.ensures.value c.remove.new.self c.remove.ensures c.law.ensures.next
    c.self.invariant

pub returns : goal.returns
returns c =
    gone-updates c.self.inside.lists.items c.self.view_is c.args.place c.requires c.index_mut-list.result.now c.index_mut-list.ensures.value c.remove.new.self c.remove.ensures c.law.ensures.next
