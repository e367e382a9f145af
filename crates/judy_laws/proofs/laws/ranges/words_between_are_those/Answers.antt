use Rattle.judy_laws.proofs.lemmas.WordRanges.{between_are_those, between_ascends}
use Rattle.judy_laws.proofs.laws.ranges.words_between_are_those.Goals as goal

pub returns : goal.returns
returns c = record { those = between_are_those; ascend = between_ascends }
