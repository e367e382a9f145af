use Rattle.std.proofs.Common.{arith}
use Rattle.judy_sets.proofs.CountFacts.{common-most, common-rest, count-symmetric}
use Rattle.judy_sets.proofs.counts.symmetric_difference_count.Goals as goal

pub overflow_sub-len : goal.overflow_sub-len
overflow_sub-len g c =
    let most = common-most c.args.one.now.map c.args.other.now.map in
    let long = c.len.ensures.count in
    let common = c.common_count-common.ensures in
    omega (arith, most, long, common)

pub overflow_sub-len-2 : goal.overflow_sub-len-2
overflow_sub-len-2 g c =
    let most = common-rest c.args.one.now.map c.args.other.now.map in
    let long = c.len-2.ensures.count in
    let common = c.common_count-common.ensures in
    omega (arith, most, long, common)

pub returns : goal.returns
returns g c =
    let whole = count-symmetric c.args.one.now.map c.args.other.now.map in
    let long = c.len.ensures.count in
    let other = c.len-2.ensures.count in
    let common = c.common_count-common.ensures in
    let sum = c.saturating_add.ensures in
    omega (arith, whole, long, other, common, sum)
