use Rattle.judy_laws.proofs.lemmas.WordRanges.{empties_and_keys, none_in_reverse}
use Rattle.judy_laws.proofs.laws.ranges.keys_and_empties_fill_a_range.Goals as goal

pub returns : goal.returns
returns c = record { all = λ map from to ordered. empties_and_keys map from to; none = none_in_reverse }
