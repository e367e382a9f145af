use Rattle.std.proofs.Common.{rules}
use Rattle.judy_command.proofs.commands.execute_word.Goals as goal

pub returns-in-None : goal.returns-in-None
returns-in-None c = search rules
