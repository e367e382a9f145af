use Rattle.std.proofs.Common.{rules}
use Rattle.judy_script.proofs.fault.RunFault.word.Goals as goal

pub returns-in-Read : goal.returns-in-Read
returns-in-Read c = search rules
