use Rattle.std.proofs.Common.{◌∙◌}
use Rattle.judy_string_sets.specs.declared.which.Which.TheVariants.{All}
use Rattle.judy_string_sets.proofs.CountFacts.{kept_alone}
use Rattle.judy_string_sets.proofs.combine.copy.Goals as goal

pub returns-in-Ok : goal.returns-in-Ok
returns-in-Ok g c =
    let map = c.args.array.now.map in
    λ t. record { limit = (c.in-Ok.ensures.limit ∙ c.limit-limit.ensures.value) t; map = (c.in-Ok.ensures.map ∙ kept_alone All map map) t }
