use Rattle.std.proofs.Common.{rules}
use Rattle.judy_pipe.proofs.tally.Tally.count_write.Goals as goal

pub returns-in-Ok-eq0 : goal.returns-in-Ok-eq0
returns-in-Ok-eq0 c = search rules
