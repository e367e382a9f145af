use Rattle.std.proofs.Common.{rules}
use Rattle.judy_word.proofs.tree_array.TreeArray.is_full.Goals as goal

pub returns-else-len-self : goal.returns-else-len-self
returns-else-len-self g c = search rules
