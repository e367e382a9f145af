use Rattle.std.proofs.Common.{ap, ◌∙◌}
use Rattle.judy_word.specs.WordArrays.{seen_as}
use Rattle.judy_word.proofs.ArrayFacts.{nothing-empty}
use Rattle.judy_word.proofs.word_array.WordArray.free_array.Goals as goal

pub returns-clause-emptied : goal.returns-clause-emptied
returns-clause-emptied g c = rw (← c.self.view_is) (ap seen_as c.free_array.ensures.emptied ∙ nothing-empty c.self.inside.tree.limit)
