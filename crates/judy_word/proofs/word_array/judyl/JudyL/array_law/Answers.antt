use Rattle.std.proofs.Common.{rules}
use Rattle.judy_word.proofs.word_array.judyl.JudyL.array_law.Goals as goal

pub returns : goal.returns
returns c = search rules
