use Rattle.std.proofs.Common.{rules}
use Rattle.judy_block.proofs.block.Block.put.Goals as goal

pub returns : goal.returns
returns c = search rules
