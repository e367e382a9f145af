use Rattle.std.proofs.Common.{rules}
use Rattle.judy_pipe.proofs.tally.Tally.count_read.Goals as goal

pub returns-in-Err : goal.returns-in-Err
returns-in-Err c = search rules
