use Rattle.std.proofs.Common.{rules}
use Rattle.judy_change.proofs.removals.lose_child.Goals as goal

pub returns-clause-population : goal.returns-clause-population
returns-clause-population g c = search rules
