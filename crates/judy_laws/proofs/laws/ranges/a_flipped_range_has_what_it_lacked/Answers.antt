use Rattle.judy_laws.proofs.lemmas.WordRanges.{flipped_within, flipped_elsewhere}
use Rattle.judy_laws.proofs.laws.ranges.a_flipped_range_has_what_it_lacked.Goals as goal

pub returns : goal.returns
returns c = record { within = flipped_within; elsewhere = flipped_elsewhere }
