use Rattle.judy_sums.proofs.Parts.{nth_parts}
use Rattle.judy_sums.proofs.laws.a_key_stands_behind_those_below_its_word.Goals as goal

pub returns : goal.returns
returns c = λ part word at level ascend within. nth_parts part word at level ascend within
