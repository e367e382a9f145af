use Rattle.std.proofs.Common.{rules}
use Rattle.judy_shelf.proofs.array.Array.kind.Goals as goal

pub returns-in-Judy1-clause-kind : goal.returns-in-Judy1-clause-kind
returns-in-Judy1-clause-kind c = search rules

pub returns-in-Judy1-clause-word : goal.returns-in-Judy1-clause-word
returns-in-Judy1-clause-word c = search rules
