use Rattle.judy_sums.proofs.LevelCounts.{entries_below_is}
use Rattle.judy_sums.proofs.laws.entries_below_are_a_rank.Goals as goal

pub returns : goal.returns
returns c = λ words word. entries_below_is words word
