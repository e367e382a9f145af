use Rattle.std.proofs.Common.{ap, ◌∙◌}
use Rattle.judy_word.specs.WordArrays.{seen_as}
use Rattle.judy_word.proofs.ArrayFacts.{nothing-empty}
use Rattle.judy_word.proofs.word_array.WordArray.unbounded.Goals as goal

pub returns : goal.returns
returns g c = ap seen_as c.new.ensures ∙ nothing-empty 18446744073709551615
