use Rattle.std.proofs.Common.{ℕ, ap, ◌∙◌}
use Rattle.std.specs.FinMap.{FinMap}
use Rattle.judy_model.specs.Keys.{word_order}
use Rattle.judy_model.specs.Arrays.{with_map}
use Rattle.judy_word.specs.WordArrays.{array_of}
use Rattle.judy_sets.proofs.Retained.{from_all, from_is}
use Rattle.judy_sets.proofs.ranges.remove_below.Goals as goal

pub returns-then-at-gt0 : goal.returns-then-at-gt0
returns-then-at-gt0 g c =
    c.remove_keys.ensures.left ∙ ap (λ (map : FinMap word_order ℕ). with_map (array_of c.args.array.now) map) (from_is c.args.array.now.map c.args.at c.if-at-gt0.true)

pub returns-else-at-gt0 : goal.returns-else-at-gt0
returns-else-at-gt0 g c = λ t. record { limit = c.args.array.now.limit; map = from_all c.args.array.now.map c.args.at c.if-at-gt0.false t }
