use Rattle.std.proofs.Common.{arith}
use Rattle.std.specs.FinMap.{len}
use Rattle.judy_string_sets.proofs.CountFacts.{kept_len, kept_most, shared_most}
use Rattle.judy_string_sets.proofs.counts.kept_count.Goals as goal

pub overflow_add-result : goal.overflow_add-result
overflow_add-result g c =
    let other = c.args.other.now.map in
    let whole = kept_len c.args.which c.args.rest c.args.one.now.map other in
    let most = kept_most c.args.which c.args.rest c.args.one.now.map other in
    let shared = shared_most c.args.rest (len other) in
    let ours = c.len-ours.ensures in
    let theirs = c.len-theirs.ensures in
    let front = c.picked_count.ensures in
    let more = c.rest_count.ensures in
    omega (arith, whole, most, shared, ours.count, ours.most, theirs.count, theirs.most, front, more)

pub returns : goal.returns
returns g c =
    let whole = kept_len c.args.which c.args.rest c.args.one.now.map c.args.other.now.map in
    let front = c.picked_count.ensures in
    let more = c.rest_count.ensures in
    omega (arith, whole, front, more)
