use Rattle.std.proofs.Common.{rules}
use Rattle.judy_command.proofs.words.word.Goals as goal

pub returns-clause-said : goal.returns-clause-said
returns-clause-said c = search rules
