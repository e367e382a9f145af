use Rattle.std.proofs.Common.{rules}
use Rattle.judy_block.proofs.block.Block.slot.Goals as goal

pub invariant_of-self-lent : goal.invariant_of-self-lent
invariant_of-self-lent c = search rules
