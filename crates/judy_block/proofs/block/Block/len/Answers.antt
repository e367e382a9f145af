use Rattle.std.proofs.Common.{rules}
use Rattle.judy_block.proofs.block.Block.len.Goals as goal

pub returns-clause-count : goal.returns-clause-count
returns-clause-count c = search rules
