-- `sellumaq_judyl_insert`: where there is no memory for the array itself, the handle held none, so the key is absent.
use Rattle.std.proofs.Common.{◌≡◌, subst, sym, refl, Option}
use Rattle.std.specs.Prelude.{ℕ, false, OnErr}
use Rattle.judy_c.specs.Told.{IsTold}
use Rattle.judy_c.proofs.WordHandles.{null_has_none, null_has_no_value}
use Rattle.judy_c.proofs.exchanges.sellumaq_judyl_insert.Goals as goal

pub returns-in-Err-clause-stored : goal.returns-in-Err-clause-stored
returns-in-Err-clause-stored c = (
  null_has_none _ c.args.key c.in-Err.ensures.null,
  subst (λ r. OnErr r (c.array_or_new.follows.lender-at-none ≡ c.args.handle.now)) c.in-Err.is c.array_or_new.follows.holds-at-none,
)

pub returns-in-Err-clause-told : goal.returns-in-Err-clause-told
returns-in-Err-clause-told c =
    subst (λ (found : Option ℕ). IsTold found false c.args.was.now c.args.was.now) (sym (null_has_no_value _ c.args.key c.in-Err.ensures.null)) (refl, refl)
