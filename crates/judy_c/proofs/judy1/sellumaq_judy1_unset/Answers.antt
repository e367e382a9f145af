-- `sellumaq_judy1_unset`: a null handle has no key to take out.
use Rattle.judy_c.proofs.WordHandles.{nothing_deleted, nothing_there}
use Rattle.judy_c.proofs.judy1.sellumaq_judy1_unset.Goals as goal

pub returns-in-None-clause-unset : goal.returns-in-None-clause-unset
returns-in-None-clause-unset c = nothing_deleted _ c.args.key c.in-None.ensures.null

pub returns-in-None-clause-answer : goal.returns-in-None-clause-answer
returns-in-None-clause-answer c = nothing_there _ c.args.key c.in-None.ensures.null
