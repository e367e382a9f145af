use Rattle.std.proofs.Common.{◌∙◌}
use Rattle.judy_leaf.proofs.bit_ref.BitRef.bits.Goals as goal

pub returns-clause-value : goal.returns-clause-value
returns-clause-value g c = c.of_words.ensures ∙ c.bit_words.ensures.keys
