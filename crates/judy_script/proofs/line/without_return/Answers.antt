use Rattle.std.proofs.Common.{arith}
use Rattle.std.proofs.lemmas.Grind.{common_steps}
use Rattle.judy_script.proofs.line.without_return.Goals as goal

pub returns-in-13 : goal.returns-in-13
returns-in-13 c = grind (arith, common_steps)
