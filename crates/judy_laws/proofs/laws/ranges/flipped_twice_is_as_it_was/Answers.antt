use Rattle.judy_laws.proofs.lemmas.WordRanges.{flipped_twice}
use Rattle.judy_laws.proofs.laws.ranges.flipped_twice_is_as_it_was.Goals as goal

pub returns : goal.returns
returns c = flipped_twice
