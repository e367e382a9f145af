use Rattle.std.proofs.Common.{◌-◌, ◌/◌, get_or, ap, sym, subst, arith, IfSome}
use Rattle.judy_node.specs.Populations.{AreGroups}
use Rattle.judy_node.proofs.SumFacts.{child-in-group, groups-set}
use Rattle.judy_node.proofs.sums.Sums.take.Goals as goal

pub overflow_sub-deref_mut : goal.overflow_sub-deref_mut
overflow_sub-deref_mut c =
    let kids = c.requires.0 in
    let kid = c.requires.1 in
    let are = subst (λ groups. IfSome groups (λ box. AreGroups box.value kids)) c.in-Some.is c.requires.2 in
    let within = c.requires.3 in
    let many = are.all in
    let some = c.requires.4 in
    let part = child-in-group c.in-Some.groups.value kids are c.args.place kid (omega arith) in
    let same = ap (λ words. get_or words (c.args.place / 16) 0) c.deref_mut.ensures.value in
    omega arith

pub returns-in-Some : goal.returns-in-Some
returns-in-Some c kids kid told within shrunk =
    let are = subst (λ groups. IfSome groups (λ box. AreGroups box.value kids)) c.in-Some.is told in
    let now = subst (λ words. AreGroups words kids) (sym c.deref_mut.ensures.value) are in
    let many = are.all in
    let part = child-in-group c.deref_mut.result.now kids now c.args.place kid (omega arith) in
    groups-set c.deref_mut.result.now kids now c.args.place (get_or c.deref_mut.result.now (c.args.place / 16) 0 - 1) kid kid within (omega arith)
