use Rattle.std.proofs.Common.{◌/◌, arith}
use Rattle.std.proofs.lemmas.List.{get_or_read}
use Rattle.judy_sums.proofs.GroupLemmas.{group_within, changed_are}
use Rattle.judy_sums.proofs.groups.add.Goals as goal

pub returns-clause-are : goal.returns-clause-are
returns-clause-are c =
    let numbers = c.args.numbers.now.items in
    let groups = c.args.groups.now.items in
    let inside = group_within numbers groups c.requires.are c.args.at c.requires.within in
    let number = get_or_read numbers c.args.at c.index_mut.result.now c.requires.within c.index_mut.ensures.value 0 in
    let group = get_or_read groups (c.args.at / 64) c.index_mut-2.result.now inside c.index_mut-2.ensures.value 0 in
    changed_are numbers groups c.requires.are c.args.at c.requires.within _ _ (omega arith)
