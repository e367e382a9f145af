use Rattle.std.proofs.Common.{rules}
use Rattle.judy_pipe.proofs.tally.Tally.interrupted.Goals as goal

pub returns-then-self-lt-RETRIED_INTERRUPTIONS : goal.returns-then-self-lt-RETRIED_INTERRUPTIONS
returns-then-self-lt-RETRIED_INTERRUPTIONS c = search rules
