use Rattle.std.proofs.Common.{arith}
use Rattle.std.proofs.lemmas.Grind.{common_steps}
use Rattle.judy_block.proofs.block.Block.of_words.Goals as goal

pub returns : goal.returns
returns c = grind (arith, common_steps)
