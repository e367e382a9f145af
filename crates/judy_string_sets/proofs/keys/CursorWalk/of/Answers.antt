use Rattle.std.proofs.Common.{false, ◌∙◌}
use Rattle.judy_string_sets.specs.Walks.{to_come}
use Rattle.judy_string_sets.proofs.WalkFacts.{all_to_come}
use Rattle.judy_string_sets.proofs.keys.CursorWalk.of.Goals as goal

pub returns : goal.returns
returns g c = (λ t. to_come false (c.short_cursor.ensures.map t) (c.short_cursor.ensures.key t)) ∙ all_to_come c.args.array.now.map
