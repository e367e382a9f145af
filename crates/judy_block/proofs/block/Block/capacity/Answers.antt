use Rattle.std.proofs.Common.{rules}
use Rattle.judy_block.proofs.block.Block.capacity.Goals as goal

pub returns-clause-capacity : goal.returns-clause-capacity
returns-clause-capacity c = search rules

pub returns-clause-within : goal.returns-clause-within
returns-clause-within c = search rules
