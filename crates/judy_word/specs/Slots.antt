-- What an array becomes, for whatever is left in the slot of a key.
use Rattle.std.specs.Prelude.{◌≡◌, ℕ, Option, Result}
use Rattle.std.specs.Borrow.{Lends, LendsIf, LendsSoOk, MutBor, Fml, u64}
use Rattle.judy_word.specs.WordArrays.{WordArray, IsWritten, with_value}
use Rattle.judy_word.specs.declared.error.InsertError.{InsertError}
use Rattle.judy_word.specs.Rows.{judyl_row}

-- The array ends with the value that is left behind the slot written at the key, where there is a slot, and
-- else it stays.
abbrev pub LendsSlot : MutBor WordArray → ℕ → Option (MutBor ℕ) → Fml
LendsSlot array key slot = LendsIf judyl_row u64 array slot (with_value array.now key) array.now

-- The same where the insert succeeds, and else it stays.
abbrev pub LendsIns : MutBor WordArray → ℕ → Result (MutBor ℕ) InsertError → Fml
LendsIns array key slot = LendsSoOk judyl_row u64 array slot (λ after left. IsWritten array.now key left after) (λ after. after ≡ array.now)

-- The array ends with the value that is left behind the slot of a key that is there.
abbrev pub LendsSlotOf : MutBor WordArray → ℕ → MutBor ℕ → Fml
LendsSlotOf array key slot = Lends judyl_row u64 array slot (with_value array.now key)
