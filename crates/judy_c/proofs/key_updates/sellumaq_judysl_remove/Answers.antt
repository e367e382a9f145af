-- `sellumaq_judysl_remove`: a null handle has no key to take out.
use Rattle.judy_model.specs.Keys.{byte_order}
use Rattle.judy_c.specs.StringMaps.{array_in}
use Rattle.judy_c.proofs.PairLemmas.{none_told}
use Rattle.judy_c.proofs.StringHandles.{nothing_deleted}
use Rattle.judy_c.proofs.key_updates.sellumaq_judysl_remove.Goals as goal

pub returns-in-None-clause-told : goal.returns-in-None-clause-told
returns-in-None-clause-told c = none_told byte_order (array_in c.args.handle.now) 4294967295 c.args.key.now c.args.was.now c.in-None.ensures.null

pub returns-in-None-clause-deleted : goal.returns-in-None-clause-deleted
returns-in-None-clause-deleted c = nothing_deleted _ c.args.key.now c.in-None.ensures.null
