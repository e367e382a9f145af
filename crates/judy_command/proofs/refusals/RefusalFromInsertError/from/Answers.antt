use Rattle.std.proofs.Common.{rules}
use Rattle.judy_command.proofs.refusals.RefusalFromInsertError.from.Goals as goal

pub returns-in-NoMemory : goal.returns-in-NoMemory
returns-in-NoMemory c = search rules
