use Rattle.std.proofs.Common.{ℕ, ap, ◌∙◌}
use Rattle.std.specs.FinMap.{FinMap}
use Rattle.judy_model.specs.Keys.{word_order}
use Rattle.judy_model.specs.Arrays.{with_map}
use Rattle.judy_word.specs.WordArrays.{array_of}
use Rattle.judy_sets.proofs.Retained.{to_all, to_is}
use Rattle.judy_sets.proofs.ranges.remove_above.Goals as goal

pub returns-then-at-lt18446744073709551615 : goal.returns-then-at-lt18446744073709551615
returns-then-at-lt18446744073709551615 g c =
    c.remove_keys.ensures.left ∙ ap (λ (map : FinMap word_order ℕ). with_map (array_of c.args.array.now) map) (to_is c.args.array.now.map c.args.at c.keys_law.ensures)

pub returns-else-at-lt18446744073709551615 : goal.returns-else-at-lt18446744073709551615
returns-else-at-lt18446744073709551615 g c =
    λ t. record { limit = c.args.array.now.limit; map = to_all c.args.array.now.map c.args.at c.keys_law.ensures c.if-at-lt18446744073709551615.false t }
