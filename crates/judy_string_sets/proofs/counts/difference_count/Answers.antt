use Rattle.std.proofs.Common.{◌-◌, ◌∙◌, arith}
use Rattle.judy_string_sets.proofs.CountFacts.{common_most, count_difference}
use Rattle.judy_string_sets.proofs.counts.difference_count.Goals as goal

pub overflow_sub-result : goal.overflow_sub-result
overflow_sub-result g c =
    let most = common_most c.args.one.now.map c.args.other.now.map in
    let long = c.len.ensures.count in
    let common = c.common_count.ensures in
    omega (arith, most, long, common)

pub returns : goal.returns
returns g c = (λ t. c.len.ensures.count t - c.common_count.ensures t) ∙ count_difference c.args.one.now.map c.args.other.now.map
