use Rattle.std.proofs.Common.{ap, ◌∙◌}
use Rattle.judy_node.specs.Trees.{Pairs}
use Rattle.judy_word.specs.Held.{map_in, with_all}
use Rattle.judy_word.specs.WordArrays.{WordArray}
use Rattle.judy_word.proofs.ArrayFacts.{nothing-empty}
use Rattle.judy_word.proofs.filling.Filling.new.Goals as goal

pub returns-clause-map : goal.returns-clause-map
returns-clause-map g c =
    ap (λ (kept : Pairs). with_all (map_in c.new.result) kept) c.new-2.ensures.items
    ∙ ap map_in c.new.ensures ∙ ap (λ (array : WordArray). array.map) (nothing-empty c.args.limit)
