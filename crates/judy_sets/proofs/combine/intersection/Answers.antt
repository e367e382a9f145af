use Rattle.std.proofs.Common.{ℕ, subst}
use Rattle.std.specs.FinMap.{FinMap}
use Rattle.judy_model.specs.Keys.{word_order}
use Rattle.judy_sets.specs.Fills.{IsMade}
use Rattle.judy_sets.proofs.MapLaws.{kept-intersection}
use Rattle.judy_sets.proofs.combine.intersection.Goals as goal

pub returns : goal.returns
returns g c = subst (λ (map : FinMap word_order ℕ). IsMade c.args.limit map c.combined.result) (kept-intersection c.args.one.now.map c.args.other.now.map) c.combined.ensures
