use Rattle.judy_laws.proofs.lemmas.WordRanges.{filled_set, flipped_set}
use Rattle.judy_laws.proofs.laws.ranges.a_set_stays_a_set.Goals as goal

pub returns : goal.returns
returns c = record { filled = filled_set; flipped = flipped_set }
