-- What a call of C that takes keys of an array of strings out answers and does.
use Rattle.std.specs.Prelude.{◌≡◌, ◌⊎◌, ℕ, Result, Ok, Err}
use Rattle.std.specs.declared.alloc.AllocError.{AllocError}
use Rattle.judy_model.specs.Keys.{byte_order}
use Rattle.judy_model.specs.Arrays.{ArrayOf}

-- The number by which it tells that memory was refused: the greatest word.
abbrev pub no_memory : ℕ
no_memory = 18446744073709551615

-- The number of what it answers.
abbrev pub removed_number : Result ℕ AllocError → ℕ
removed_number (Ok count) = count
removed_number (Err error) = no_memory

-- The keys are counted, and the others are left.
pub record IsTaken (count : ℕ) (others : ArrayOf byte_order) (answer : ℕ) (after : ArrayOf byte_order) : Type 0 where
  pub counted : answer ≡ count
  pub left : after ≡ others

-- Memory was refused, and nothing changed, as `same` says.
pub record IsWithoutMemory (same : Type 0) (answer : ℕ) : Type 0 where
  pub told : answer ≡ no_memory
  pub stays : same

-- The one or the other.
abbrev pub IsRemoved : ℕ → ArrayOf byte_order → Type 0 → ℕ → ArrayOf byte_order → Type 0
IsRemoved count others same answer after = IsTaken count others answer after ⊎ IsWithoutMemory same answer
