-- The array of byte keys that a handle holds, of whatever type, by its limit and its map.
use Rattle.std.specs.Prelude.{◌≡◌, ℕ, List, Result, unwrap_or}
use Rattle.std.specs.Borrow.{Fml, MutBor, RattleType}
use Rattle.judy_model.specs.Keys.{byte_order}
use Rattle.judy_model.specs.Arrays.{ArrayOf}
use Rattle.judy_sl.specs.Lends.{with_value}
use Rattle.judy_c.specs.KeySlots as slots
use Rattle.judy_c.specs.NullArrays.{empty_keyed}
use Rattle.judy_c.specs.declared.answers.InsertRefusal.{InsertRefusal}
use Rattle.judy_c.specs.declared.held.Held.{Held}
use Rattle.judy_c.specs.contracts.held.Held.{the_row}

-- The one that is held, or the one without keys where none is.
abbrev pub array_in : {A : Type 0} → (A → ArrayOf byte_order) → A → Held A → ArrayOf byte_order
array_in seen without_keys held = seen (unwrap_or held.array without_keys)

-- What becomes of what is held, once the slot of a key that an insert lent has ended.
abbrev pub LendsInsOf : (T : RattleType) → (T.Denot → ArrayOf byte_order) → T.Denot → MutBor (Held T.Denot) → List ℕ → Result (MutBor ℕ) InsertRefusal → Fml
LendsInsOf T seen without_keys = slots.LendsInsOf (the_row T) (array_in seen without_keys)

-- The array of one key, with its value.
pub record IsOne {A : Type 0} (IsKey : List ℕ → Type 0) (seen : A → ArrayOf byte_order) (key : List ℕ) (value : ℕ) (array : A) : Type 0 where
  pub is_key : IsKey key
  pub holds : seen array ≡ with_value empty_keyed key value
