use Rattle.std.proofs.Common.{arith}
use Rattle.judy_string_sets.proofs.RelationFacts.{same_is, same_long}
use Rattle.judy_string_sets.proofs.relations.same_keys.Goals as goal

pub returns-then-len : goal.returns-then-len
returns-then-len g c =
    let ours = c.len.ensures.count in
    let theirs = c.len-2.ensures.count in
    let more = c.if-len.true in
    (λ never. absurd cc, λ same. let long = same_long c.args.one.now.map c.args.other.now.map same in absurd (omega (arith, ours, theirs, more, long)))

pub returns : goal.returns
returns g c =
    let ours = c.len.ensures.count in
    let theirs = c.len-2.ensures.count in
    let same = c.if-len.false in
    let is = same_is c.args.one.now.map c.args.other.now.map (omega (arith, ours, theirs, same)) in
    (λ yes. is.0 (c.has_none.ensures.0 yes), λ alike. c.has_none.ensures.1 (is.1 alike))
