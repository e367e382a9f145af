use Rattle.std.proofs.Common.{refl, arith}
use Rattle.judy_tails.proofs.ListLemmas.{seen-inside, list-held, lent-are, lent-lists, lent-value}
use Rattle.judy_tails.proofs.short.ShortTails.slot.Goals as goal

pub index_mut-requires : goal.index_mut-requires
index_mut-requires c = omega (arith, seen-inside c.self.inside.lists.items c.self.view_is c.args.place c.requires, c.self.inside.lists.ok)

pub slot-requires : goal.slot-requires
slot-requires c = list-held c.self.inside.lists.items c.self.view_is c.args.place c.requires c.index_mut.result.now c.index_mut.ensures.value

pub invariant_of-self-lent : goal.invariant_of-self-lent
invariant_of-self-lent c = lent-are c.self.inside.lists.items c.self.view_is c.args.place c.requires c.index_mut.result.now c.index_mut.ensures.value c.self.invariant

pub returns : goal.returns
returns c =
    let lists = c.self.inside.lists.items in
    let read = c.index_mut.ensures.value in (
      (refl, lent-lists lists c.self.view_is c.args.place c.requires c.index_mut.result.now read),
      record {
        writes_back = tt;
        value = lent-value lists c.self.view_is c.args.place c.requires c.index_mut.result.now read c.slot.ensures.value;
      },
    )
