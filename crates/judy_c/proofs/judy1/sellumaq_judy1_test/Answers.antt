-- `sellumaq_judy1_test`: a null handle has no key.
use Rattle.judy_c.proofs.WordHandles.{nothing_there}
use Rattle.judy_c.proofs.judy1.sellumaq_judy1_test.Goals as goal

pub returns-in-None-clause-answer : goal.returns-in-None-clause-answer
returns-in-None-clause-answer c = nothing_there _ c.args.key c.in-None.ensures.null
