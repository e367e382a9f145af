-- What an array becomes, for whatever is left in the slot of a key.
use Rattle.std.specs.Prelude.{ℕ, List, Option, Result}
use Rattle.std.specs.Borrow.{LendsIf, LendsIfOk, MutBor, Fml, RattleType, u64}
use Rattle.judy_model.specs.Keys.{byte_order}
use Rattle.judy_model.specs.Arrays.{ArrayOf, with_map, write}
use Rattle.judy_sl.specs.declared.error.SlError.{SlError}
use Rattle.judy_sl.specs.contracts.judysl.StringsOf.{the_row}
use Rattle.judy_sl.specs.declared.keys.KeyLength.{Ghosts}

-- The array with a value written at a key.
abbrev pub with_value : ArrayOf byte_order → List ℕ → ℕ → ArrayOf byte_order
with_value array key value = with_map array (write array.map key value)

module _ (L : RattleType) (lengths : Ghosts L.Denot) where
  -- The array ends with the value that is left behind the slot written at the key, where there is a slot, and
  -- else it stays.
  abbrev pub LendsSlot : MutBor (ArrayOf byte_order) → List ℕ → Option (MutBor ℕ) → Fml
  LendsSlot array key slot = LendsIf (the_row L lengths) u64 array slot (with_value array.now key) array.now

  -- The same where the insert succeeds, and else it stays.
  abbrev pub LendsIns : MutBor (ArrayOf byte_order) → List ℕ → Result (MutBor ℕ) SlError → Fml
  LendsIns array key slot = LendsIfOk (the_row L lengths) u64 array slot (with_value array.now key) array.now
