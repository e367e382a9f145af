-- What a handle of an array over byte strings stands for, once the slot of a key that a call lent has ended.
use Rattle.std.specs.Prelude.{◌≡◌, ℕ, List, Option, Some, None, Result, IsSome}
use Rattle.std.specs.Borrow.{Fml, MutBor, RattleType, LendsSo, LendsSoOk, u64}
use base.Fml.{ffalse}
use Rattle.judy_model.specs.Keys.{byte_order}
use Rattle.judy_model.specs.Arrays.{ArrayOf}
use Rattle.judy_sl.specs.Lends.{with_value}
use Rattle.judy_c.specs.declared.answers.InsertRefusal.{InsertRefusal}

-- Of handles of a type, by the array that each stands for.
module _ (R : RattleType) (array_in : R.Denot → ArrayOf byte_order) where
  -- The key has the value that was left behind the slot, where one was lent, and else the handle is as it was.
  abbrev pub LendsSlotOf : MutBor R.Denot → List ℕ → Option (MutBor ℕ) → Fml
  LendsSlotOf handle key slot = LendsSo R u64 handle slot (λ after value. IsSome slot → array_in after ≡ with_value (array_in handle.now) key value) (λ after. after ≡ handle.now)

  -- The same of an insert: where a slot was lent, the key is there with the value that was left behind it.
  abbrev pub LendsInsOf : MutBor R.Denot → List ℕ → Result (MutBor ℕ) InsertRefusal → Fml
  LendsInsOf handle key slot = LendsSoOk R u64 handle slot (λ after value. array_in after ≡ with_value (array_in handle.now) key value) (λ after. after ≡ handle.now)

  -- The same of what is told of an insert.
  abbrev pub LendsAnswered : MutBor R.Denot → List ℕ → Option (Result (MutBor ℕ) InsertRefusal) → Fml
  LendsAnswered handle key None = ffalse
  LendsAnswered handle key (Some made) = LendsInsOf handle key made
