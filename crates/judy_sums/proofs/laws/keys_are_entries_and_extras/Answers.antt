use Rattle.judy_sums.proofs.LevelCounts.{keys_below_is, keys_are}
use Rattle.judy_sums.proofs.laws.keys_are_entries_and_extras.Goals as goal

pub returns-clause-below : goal.returns-clause-below
returns-clause-below c = λ leads behind level word weighed. keys_below_is leads behind level word weighed

pub returns-clause-all : goal.returns-clause-all
returns-clause-all c = λ leads behind level weighed. keys_are leads behind level weighed
