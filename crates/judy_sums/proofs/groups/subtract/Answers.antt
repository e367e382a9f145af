use Rattle.std.proofs.Common.{◌/◌, arith}
use Rattle.std.proofs.lemmas.List.{get_or_read}
use Rattle.judy_sums.proofs.GroupLemmas.{group_within, group_has, changed_are}
use Rattle.judy_sums.proofs.groups.subtract.Goals as goal

pub overflow_sub-index_mut-2 : goal.overflow_sub-index_mut-2
overflow_sub-index_mut-2 c =
    let groups = c.args.groups.now.items in
    let inside = group_within c.args.numbers.now.items groups c.requires.are c.args.at c.requires.within in
    let has = group_has c.args.numbers.now.items groups c.requires.are c.args.at c.requires.within in
    let group = get_or_read groups (c.args.at / 64) c.index_mut-2.result.now inside c.index_mut-2.ensures.value 0 in
    let some = c.requires.some in
    omega arith

pub returns-clause-are : goal.returns-clause-are
returns-clause-are c =
    let numbers = c.args.numbers.now.items in
    let groups = c.args.groups.now.items in
    let inside = group_within numbers groups c.requires.are c.args.at c.requires.within in
    let has = group_has numbers groups c.requires.are c.args.at c.requires.within in
    let number = get_or_read numbers c.args.at c.index_mut.result.now c.requires.within c.index_mut.ensures.value 0 in
    let group = get_or_read groups (c.args.at / 64) c.index_mut-2.result.now inside c.index_mut-2.ensures.value 0 in
    let some = c.requires.some in
    changed_are numbers groups c.requires.are c.args.at c.requires.within _ _ (omega arith)
