use Rattle.std.proofs.Common.{ℕ, ap, ◌∙◌}
use Rattle.std.specs.FinMap.{FinMap}
use Rattle.judy_model.specs.Keys.{word_order}
use Rattle.judy_model.specs.Arrays.{with_map}
use Rattle.judy_word.specs.WordArrays.{array_of}
use Rattle.judy_sets.proofs.Splits.{from_on_is, below_is}
use Rattle.judy_sets.proofs.ranges.split_off.Goals as goal

pub returns-clause-made : goal.returns-clause-made
returns-clause-made g c =
    let limit = c.in-Ok.ensures.limit ∙ c.limit-limit.ensures.value in
    let map = c.in-Ok.ensures.map ∙ from_on_is c.args.array.now.map c.args.at c.keys_law.ensures in
    λ t. record { limit = limit t; map = map t }

pub returns-clause-left : goal.returns-clause-left
returns-clause-left g c =
    c.remove_range.ensures.left ∙ ap (λ (map : FinMap word_order ℕ). with_map (array_of c.args.array.now) map) (below_is c.args.array.now.map c.args.at c.keys_law.ensures)
