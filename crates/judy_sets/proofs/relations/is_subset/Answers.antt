use Rattle.std.proofs.Common.{arith}
use Rattle.judy_sets.proofs.LookFacts.{more_keys, subset_by}
use Rattle.judy_sets.proofs.relations.is_subset.Goals as goal

pub returns-then-len : goal.returns-then-len
returns-then-len g c =
    more_keys c.args.one.now.map c.args.other.now.map
    (let ours = c.len.ensures.count in
    let theirs = c.len-2.ensures.count in
    let more = c.if-len.true in
    omega (arith, ours, theirs, more))

pub returns : goal.returns
returns g c = subset_by c.args.one.now.map c.args.other.now.map c.has_some.result c.has_some.ensures
