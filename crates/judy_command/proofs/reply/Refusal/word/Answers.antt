use Rattle.std.proofs.Common.{rules}
use Rattle.judy_command.proofs.reply.Refusal.word.Goals as goal

pub returns-in-Full : goal.returns-in-Full
returns-in-Full c = search rules
