-- What a handle stands for, once the slot of a key that a call lent has ended.
use Rattle.std.specs.Prelude.{◌≡◌, ℕ, Option, IsSome}
use Rattle.std.specs.Borrow.{Fml, MutBor, LendsSo, u64}
use Rattle.judy_word.specs.Writes.{with_value}
use Rattle.judy_c.specs.declared.map.Map.{Map}
use Rattle.judy_c.specs.contracts.map.Map.{the_row}
use Rattle.judy_c.specs.Maps.{array_in_map}

-- The key has the value that was left behind the slot, where one was lent, and else the handle is as it was.
abbrev pub LendsSlotOf : MutBor Map → ℕ → Option (MutBor ℕ) → Fml
LendsSlotOf handle key slot = LendsSo the_row u64 handle slot (λ after value. IsSome slot → array_in_map after ≡ with_value (array_in_map handle.now) key value) (λ after. after ≡ handle.now)
