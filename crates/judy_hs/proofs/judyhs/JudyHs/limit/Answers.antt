use Rattle.std.proofs.Common.{rules}
use Rattle.judy_hs.proofs.judyhs.JudyHs.limit.Goals as goal

pub returns-clause-value : goal.returns-clause-value
returns-clause-value g c = search rules

pub returns-clause-some : goal.returns-clause-some
returns-clause-some g c = search rules

pub returns-clause-most : goal.returns-clause-most
returns-clause-most g c = search rules
