use Rattle.judy_sums.proofs.Parts.{count_parts}
use Rattle.judy_sums.proofs.laws.keys_that_pass_are_below_a_word_or_behind_it.Goals as goal

pub returns : goal.returns
returns c = λ part passes word level ascend parted. count_parts part passes word level ascend parted
