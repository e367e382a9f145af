use Rattle.judy_sets.proofs.LookFacts.{disjoint_by, disjoint_turned}
use Rattle.judy_sets.proofs.relations.is_disjoint.Goals as goal

pub returns-then-len : goal.returns-then-len
returns-then-len g c = disjoint_by c.args.one.now.map c.args.other.now.map c.has_some.result c.has_some.ensures

pub returns : goal.returns
returns g c = disjoint_turned c.args.one.now.map c.args.other.now.map c.has_some-2.result c.has_some-2.ensures
