use Rattle.std.proofs.Common.{rules}
use Rattle.judy_word.proofs.tree_array.TreeArray.free_array.Goals as goal

pub returns-clause-emptied : goal.returns-clause-emptied
returns-clause-emptied g c = search rules
