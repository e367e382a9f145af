-- What holds of an array that is lent, or of none.
use Rattle.std.proofs.Common.{◌≡◌, sym, ap, Option, Some, None, IfSome, IfNone, Result, Ok, Err, MutBor}
use Rattle.std.specs.Prelude.{OnErr}
use Rattle.std.specs.Option.{option_copied_mut}

-- what follows at an error
pub on_err : {A E P Q : Type 0} (r : Result A E) → (P → Q) → OnErr r P → OnErr r Q
on_err (Ok x) f is = tt
on_err (Err e) f is = f is

module _ {A B : Type 0} (f : Option A → B) (held : Option A) where
  -- what is made of the array that is lent is made of what is held
  pub held_again : (lent : Option (MutBor A)) → option_copied_mut lent ≡ held → IfSome lent (λ array. f (Some array.now) ≡ f held)
  held_again None is = tt
  held_again (Some array) is = ap f is

  -- and where none is lent, what is made of none is
  pub none_held : (lent : Option (MutBor A)) → option_copied_mut lent ≡ held → IfNone lent (f held ≡ f None)
  none_held None is = ap f (sym is)
  none_held (Some array) is = tt
