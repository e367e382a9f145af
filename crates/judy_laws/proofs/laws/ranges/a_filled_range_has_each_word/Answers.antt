use Rattle.judy_laws.proofs.lemmas.WordRanges.{filled_within, filled_elsewhere}
use Rattle.judy_laws.proofs.laws.ranges.a_filled_range_has_each_word.Goals as goal

pub returns : goal.returns
returns c = record { within = filled_within; elsewhere = filled_elsewhere }
