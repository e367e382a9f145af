use Rattle.std.proofs.Common.{arith}
use Rattle.judy_string_sets.proofs.RelationFacts.{subset_is, subset_few}
use Rattle.judy_string_sets.proofs.relations.is_subset.Goals as goal

pub returns-then-len : goal.returns-then-len
returns-then-len g c =
    let ours = c.len.ensures.count in
    let theirs = c.len-2.ensures.count in
    let more = c.if-len.true in
    (λ never. absurd cc, λ subset. let few = subset_few c.args.one.now.map c.args.other.now.map subset in absurd (omega (arith, ours, theirs, more, few)))

pub returns : goal.returns
returns g c =
    let is = subset_is c.args.one.now.map c.args.other.now.map in
    (λ yes. is.0 (c.has_none.ensures.0 yes), λ subset. c.has_none.ensures.1 (is.1 subset))
