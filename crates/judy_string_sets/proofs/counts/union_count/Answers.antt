use Rattle.std.proofs.Common.{arith}
use Rattle.judy_string_sets.proofs.CountFacts.{difference_most, count_union}
use Rattle.judy_string_sets.proofs.counts.union_count.Goals as goal

pub overflow_add-result : goal.overflow_add-result
overflow_add-result g c =
    let fewer = difference_most c.args.other.now.map c.args.one.now.map in
    let theirs = c.len-most.ensures in
    let ours = c.len.ensures in
    let more = c.difference_count.ensures in
    omega (arith, fewer, theirs.count, theirs.most, ours.most, more)

pub returns : goal.returns
returns g c =
    let whole = count_union c.args.one.now.map c.args.other.now.map in
    let long = c.len.ensures.count in
    let more = c.difference_count.ensures in
    omega (arith, whole, long, more)
