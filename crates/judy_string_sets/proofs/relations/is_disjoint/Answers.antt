use Rattle.judy_string_sets.proofs.RelationFacts.{disjoint_is, disjoint_turned}
use Rattle.judy_string_sets.proofs.relations.is_disjoint.Goals as goal

pub returns-then-len : goal.returns-then-len
returns-then-len g c =
    let is = disjoint_is c.args.one.now.map c.args.other.now.map in
    (λ yes. is.0 (c.has_none.ensures.0 yes), λ apart. c.has_none.ensures.1 (is.1 apart))

pub returns-else-len : goal.returns-else-len
returns-else-len g c =
    let is = disjoint_turned c.args.one.now.map c.args.other.now.map in
    (λ yes. is.0 (c.has_none-else-len.ensures.0 yes), λ apart. c.has_none-else-len.ensures.1 (is.1 apart))
