use Rattle.std.proofs.Common.{rules}
use Rattle.judy_shelf.proofs.array.Array.limit.Goals as goal

pub returns-in-JudyL : goal.returns-in-JudyL
returns-in-JudyL c = search rules
