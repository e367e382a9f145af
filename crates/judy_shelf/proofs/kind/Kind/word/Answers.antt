use Rattle.std.proofs.Common.{rules}
use Rattle.judy_shelf.proofs.kind.Kind.word.Goals as goal

pub returns-in-Judy1-clause-word : goal.returns-in-Judy1-clause-word
returns-in-Judy1-clause-word c = search rules

pub returns-in-Judy1-clause-names_it : goal.returns-in-Judy1-clause-names_it
returns-in-Judy1-clause-names_it c = search rules
