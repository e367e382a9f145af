use Rattle.std.proofs.Common.{rules}
use Rattle.judy_shelf.proofs.array.Array.len.Goals as goal

pub returns-in-JudyL-clause-count : goal.returns-in-JudyL-clause-count
returns-in-JudyL-clause-count c = search rules
