use Rattle.judy_model.specs.Keys.{byte_order}
use Rattle.judy_c.specs.StringMaps.{array_in}
use Rattle.judy_c.proofs.PairLemmas.{none_told}
use Rattle.judy_c.proofs.judysl.sellumaq_judysl_get.Goals as goal

pub returns-in-None-clause-told : goal.returns-in-None-clause-told
returns-in-None-clause-told c = none_told byte_order (array_in c.args.handle.now) 4294967295 c.args.key.now c.args.value.now c.in-None.ensures.null
