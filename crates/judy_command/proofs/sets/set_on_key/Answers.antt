use Rattle.std.proofs.Common.{rules}
use Rattle.judy_command.proofs.sets.set_on_key.Goals as goal

pub returns-in_ok-word-in-Test : goal.returns-in_ok-word-in-Test
returns-in_ok-word-in-Test c = search rules
