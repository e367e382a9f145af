use Rattle.std.proofs.Common.{rules}
use Rattle.judy_shelf.proofs.array.Array.free.Goals as goal

pub returns-in-JudyL-clause-freed : goal.returns-in-JudyL-clause-freed
returns-in-JudyL-clause-freed c = search rules
