use Rattle.std.proofs.Common.{arith}
use Rattle.std.proofs.lemmas.Grind.{common_steps}
use Rattle.judy_command.proofs.command.Command.from_word.Goals as goal

pub returns-in-next : goal.returns-in-next
returns-in-next c = grind (arith, common_steps)

pub returns-in-prev : goal.returns-in-prev
returns-in-prev c = grind (arith, common_steps)

pub returns-in-unset : goal.returns-in-unset
returns-in-unset c = grind (arith, common_steps)

pub returns-in-first : goal.returns-in-first
returns-in-first c = grind (arith, common_steps)

pub returns-in-count : goal.returns-in-count
returns-in-count c = grind (arith, common_steps)
