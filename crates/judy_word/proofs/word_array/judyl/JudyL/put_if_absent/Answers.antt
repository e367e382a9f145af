use Rattle.std.proofs.Common.{rules}
use Rattle.judy_word.proofs.word_array.judyl.JudyL.put_if_absent.Goals as goal

pub returns-clause-put : goal.returns-clause-put
returns-clause-put c = search rules
