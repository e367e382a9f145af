-- `sellumaq_judyl_del`: a null handle has no key to take out.
use Rattle.judy_c.proofs.WordHandles.{nothing_deleted, nothing_there}
use Rattle.judy_c.proofs.judyl.sellumaq_judyl_del.Goals as goal

pub returns-in-None-clause-deleted : goal.returns-in-None-clause-deleted
returns-in-None-clause-deleted c = nothing_deleted _ c.args.key c.in-None.ensures.null

pub returns-in-None-clause-answer : goal.returns-in-None-clause-answer
returns-in-None-clause-answer c = nothing_there _ c.args.key c.in-None.ensures.null
