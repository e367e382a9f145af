use Rattle.std.proofs.Common.{rules}
use Rattle.judy_pipe.proofs.source.read_some.Goals as goal

pub returns-in-Err-clause-failures : goal.returns-in-Err-clause-failures
returns-in-Err-clause-failures g c = search rules
