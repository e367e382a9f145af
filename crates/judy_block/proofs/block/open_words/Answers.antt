use Rattle.std.proofs.Common.{arith}
use Rattle.judy_block.proofs.Gaps.{gap_opened}
use Rattle.judy_block.proofs.block.open_words.Goals as goal

pub returns : goal.returns
returns c = grind (arith, gap_opened)
