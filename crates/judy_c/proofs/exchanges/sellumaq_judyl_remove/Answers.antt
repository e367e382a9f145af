-- `sellumaq_judyl_remove`: a null handle has no key to take out.
use Rattle.std.proofs.Common.{subst, sym, refl, Option}
use Rattle.std.specs.Prelude.{ℕ, false}
use Rattle.judy_c.specs.Told.{IsTold}
use Rattle.judy_c.proofs.WordHandles.{nothing_deleted, nothing_held}
use Rattle.judy_c.proofs.exchanges.sellumaq_judyl_remove.Goals as goal

pub returns-in-None-clause-told : goal.returns-in-None-clause-told
returns-in-None-clause-told c =
    subst (λ (found : Option ℕ). IsTold found false c.args.was.now c.args.was.now) (sym (nothing_held _ c.args.key c.in-None.ensures.null)) (refl, refl)

pub returns-in-None-clause-deleted : goal.returns-in-None-clause-deleted
returns-in-None-clause-deleted c = nothing_deleted _ c.args.key c.in-None.ensures.null
