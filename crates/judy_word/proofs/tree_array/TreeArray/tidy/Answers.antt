use Rattle.std.proofs.Common.{rules}
use Rattle.judy_word.proofs.tree_array.TreeArray.tidy.Goals as goal

pub invariant_of-self : goal.invariant_of-self
invariant_of-self g c = search rules
