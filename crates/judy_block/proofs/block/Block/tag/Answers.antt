use Rattle.std.proofs.Common.{rules}
use Rattle.judy_block.proofs.block.Block.tag.Goals as goal

pub returns-clause-tag : goal.returns-clause-tag
returns-clause-tag c = search rules
