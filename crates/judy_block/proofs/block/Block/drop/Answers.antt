use Rattle.std.proofs.Common.{rules}
use Rattle.judy_block.proofs.block.Block.drop.Goals as goal

pub release-requires-clause-count : goal.release-requires-clause-count
release-requires-clause-count c = search rules
