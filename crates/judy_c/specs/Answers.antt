-- The numbers by which calls of C on arrays over strings, or over byte strings, answer.
use Rattle.std.specs.Prelude.{◌≡◌, ℕ, zero, suc, Option, Some, None, Result, Ok, Err}
use Rattle.std.specs.Borrow.{MutBor}
use Rattle.judy_c.specs.declared.answers.InsertRefusal.{InsertRefusal}
use Rattle.judy_c.specs.declared.answers.InsertRefusal.TheVariants.{NoMemory, Full, BadKey}

-- What each answer of a scan says.
pub record Says : Type 1 where
  pub none : Type 0
  pub found : Type 0
  pub bad_key : Type 0
  pub too_small : Type 0

-- What is said by the number of an answer; there are no others.
abbrev pub IsSaid : Says → ℕ → Type 0
IsSaid says zero = says.none
IsSaid says (suc zero) = says.found
IsSaid says (suc (suc zero)) = ⊥
IsSaid says (suc (suc (suc zero))) = ⊥
IsSaid says (suc (suc (suc (suc zero)))) = says.bad_key
IsSaid says (suc (suc (suc (suc (suc zero))))) = says.too_small
IsSaid says (suc (suc (suc (suc (suc (suc n)))))) = ⊥

-- What an insert answers by a number and the slot that it may leave where the caller is told; there are no other numbers.
abbrev pub answered : ℕ → MutBor ℕ → Option (Result (MutBor ℕ) InsertRefusal)
answered zero slot = None
answered (suc zero) slot = Some (Ok slot)
answered (suc (suc zero)) slot = Some (Err NoMemory)
answered (suc (suc (suc zero))) slot = Some (Err Full)
answered (suc (suc (suc (suc zero)))) slot = Some (Err BadKey)
answered (suc (suc (suc (suc (suc n))))) slot = None

-- What stands then where the caller is told: the slot, where there is one, and else what stood there.
abbrev pub IsHanded : Option (Result (MutBor ℕ) InsertRefusal) → MutBor ℕ → MutBor ℕ → Type 0
IsHanded None before after = ⊥
IsHanded (Some (Ok slot)) before after = after ≡ slot
IsHanded (Some (Err refusal)) before after = after ≡ before
