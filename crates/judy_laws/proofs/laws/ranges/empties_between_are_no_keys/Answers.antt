use Rattle.judy_laws.proofs.lemmas.WordRanges.{empties_are_those}
use Rattle.judy_laws.proofs.laws.ranges.empties_between_are_no_keys.Goals as goal

pub returns : goal.returns
returns c = empties_are_those
