use Rattle.std.proofs.Common.{arith}
use Rattle.judy_node.proofs.SumFacts.{rest-sum}
use Rattle.judy_node.proofs.sums.keys_before_group.Goals as goal

pub sum_of-requires-else-group-groups : goal.sum_of-requires-else-group-groups
sum_of-requires-else-group-groups c =
    let rest = rest-sum c.args.groups.now c.args.group in
    let all = c.requires.all in
    let fits = c.ranges.all.fits in
    omega arith

pub overflow_sub-result : goal.overflow_sub-result
overflow_sub-result c =
    let rest = rest-sum c.args.groups.now c.args.group in
    let all = c.requires.all in
    let part = c.sum_of-else-group-groups.ensures in
    omega arith

pub returns-else-group-groups : goal.returns-else-group-groups
returns-else-group-groups c =
    let rest = rest-sum c.args.groups.now c.args.group in
    let all = c.requires.all in
    let part = c.sum_of-else-group-groups.ensures in
    omega arith
