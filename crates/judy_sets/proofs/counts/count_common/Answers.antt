use Rattle.std.proofs.Common.{arith}
use Rattle.judy_sets.proofs.CountFacts.{common-most}
use Rattle.judy_sets.proofs.LookFacts.{common_is}
use Rattle.judy_sets.proofs.MeetFacts.{all_counted}
use Rattle.judy_sets.proofs.counts.count_common.Goals as goal

pub returns : goal.returns
returns g c =
    let one = c.args.one.now.map in
    let other = c.args.other.now.map in
    let counted = c.count_sought.ensures in
    let all = common_is one other in
    let most = common-most one other in
    let long = c.len-most.ensures.count in
    all_counted 18446744073709551615 _ c.count_sought.result _ counted (omega arith) all
