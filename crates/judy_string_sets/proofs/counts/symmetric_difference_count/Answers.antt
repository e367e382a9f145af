use Rattle.std.proofs.Common.{arith}
use Rattle.judy_string_sets.proofs.CountFacts.{common_most, common_rest, count_symmetric}
use Rattle.judy_string_sets.proofs.counts.symmetric_difference_count.Goals as goal

pub overflow_sub-result : goal.overflow_sub-result
overflow_sub-result g c =
    let most = common_most c.args.one.now.map c.args.other.now.map in
    let long = c.len.ensures.count in
    let common = c.common_count-common.ensures in
    omega (arith, most, long, common)

pub overflow_sub-result-2 : goal.overflow_sub-result-2
overflow_sub-result-2 g c =
    let most = common_rest c.args.one.now.map c.args.other.now.map in
    let long = c.len-2.ensures.count in
    let common = c.common_count-common.ensures in
    omega (arith, most, long, common)

pub overflow_add-result : goal.overflow_add-result
overflow_add-result g c =
    let ours = c.len.ensures.most in
    let theirs = c.len-2.ensures.most in
    omega (arith, ours, theirs)

pub returns : goal.returns
returns g c =
    let whole = count_symmetric c.args.one.now.map c.args.other.now.map in
    let long = c.len.ensures.count in
    let other = c.len-2.ensures.count in
    let common = c.common_count-common.ensures in
    omega (arith, whole, long, other, common)
