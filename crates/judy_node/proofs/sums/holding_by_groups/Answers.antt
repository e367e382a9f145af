use Rattle.std.proofs.Common.{◌+◌, ◌-◌, ◌*◌, ◌∙◌, ◌≡◌, take, drop, sym, ap, subst, arith}
use Rattle.judy_node.specs.Populations.{population, HoldsNth}
use Rattle.judy_node.proofs.SumFacts.{groups-all, group-population, holds-span}
use Rattle.judy_node.proofs.sums.holding_by_groups.Goals as goal

pub group_holding-group-requires-clause-all : goal.group_holding-group-requires-clause-all
group_holding-group-requires-clause-all g c = c.requires.all ∙ sym (groups-all c.args.groups.now c.args.children.now c.requires.groups)

pub child_holding-place-requires : goal.child_holding-place-requires
child_holding-place-requires g c =
    let first = 16 * c.group_holding-group.result.0 in
    let there = c.group_holding-group.ensures.there in
    let long = c.requires.groups.groups in
    let sixteen : 16 ≡ first + 16 - first = omega arith in (
      omega arith,
      (
        group-population c.args.groups.now c.args.children.now c.requires.groups c.group_holding-group.result.0 (omega arith)
            ∙ ap (λ n. population (take n (drop first c.args.children.now))) sixteen,
        c.group_holding-group.ensures.inside,
      ),
    )

pub overflow_add-result : goal.overflow_add-result
overflow_add-result g c =
    let first = 16 * c.group_holding-group.result.0 in
    let there = c.group_holding-group.ensures.there in
    let long = c.requires.groups.groups in
    let holds = c.child_holding-place.ensures in
    let own = holds-span c.args.children.now first (first + 16 - first) c.group_holding-group.result.1 c.child_holding-place.result.0 c.child_holding-place.result.1 holds.0 holds.1 in
    let within = own.0 in
    omega arith

pub returns : goal.returns
returns g c =
    let group = c.group_holding-group.result.0 in
    let first = 16 * group in
    let there = c.group_holding-group.ensures.there in
    let long = c.requires.groups.groups in
    let holds = c.child_holding-place.ensures in
    let own = holds-span c.args.children.now first (first + 16 - first) c.group_holding-group.result.1 c.child_holding-place.result.0 c.child_holding-place.result.1 holds.0 holds.1 in
    let counted = c.group_holding-group.ensures.counted in
    let before = c.requires.groups.each group (omega arith) in
    (holds.0, subst (λ n. HoldsNth c.args.children.now n (first + c.child_holding-place.result.0) c.child_holding-place.result.1 holds.0) (omega arith) own.1)
