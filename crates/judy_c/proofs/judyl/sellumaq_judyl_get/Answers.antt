-- `sellumaq_judyl_get`: a null handle has no value.
use Rattle.std.proofs.Common.{sym, subst}
use Rattle.judy_c.specs.Told.{IsTold}
use Rattle.judy_c.proofs.WordHandles.{nothing_held}
use Rattle.judy_c.proofs.judyl.sellumaq_judyl_get.Goals as goal

pub returns-in-None-clause-told : goal.returns-in-None-clause-told
returns-in-None-clause-told c =
    subst (λ found. IsTold found c.tell-in-None.result c.args.value.now c.tell-in-None.new.told) (sym (nothing_held _ c.args.key c.in-None.ensures.null)) c.tell-in-None.ensures
