use Rattle.std.proofs.Common.{subst}
use Rattle.judy_string_sets.specs.Results.{IsMade}
use Rattle.judy_string_sets.specs.Walks.{Strings}
use Rattle.judy_string_sets.proofs.CountFacts.{kept_union}
use Rattle.judy_string_sets.proofs.combine.union.Goals as goal

pub returns : goal.returns
returns g c = subst (λ (map : Strings). IsMade c.args.limit map c.combined.result) (kept_union c.args.one.now.map c.args.other.now.map) c.combined.ensures
