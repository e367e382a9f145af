use Rattle.std.proofs.Common.{rules}
use Rattle.judy_shelf.proofs.head.read_word_after.Goals as goal

pub returns-in_default-clause-above : goal.returns-in_default-clause-above
returns-in_default-clause-above g c = search rules

pub returns-in_default-clause-read : goal.returns-in_default-clause-read
returns-in_default-clause-read g c = search rules
