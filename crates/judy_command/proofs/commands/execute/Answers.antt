use Rattle.std.proofs.Common.{arith}
use Rattle.std.proofs.lemmas.Grind.{common_steps}
use Rattle.judy_command.proofs.commands.execute.Goals as goal

pub returns-in-59 : goal.returns-in-59
returns-in-59 c = grind (arith, common_steps)
