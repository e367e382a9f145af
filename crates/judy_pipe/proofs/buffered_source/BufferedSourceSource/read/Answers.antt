use Rattle.std.proofs.Common.{rules}
use Rattle.judy_pipe.proofs.buffered_source.BufferedSourceSource.read.Goals as goal

pub returns-then-is_err-clause-ended : goal.returns-then-is_err-clause-ended
returns-then-is_err-clause-ended g c = search rules

pub returns-then-is_err-clause-tally : goal.returns-then-is_err-clause-tally
returns-then-is_err-clause-tally g c = search rules
