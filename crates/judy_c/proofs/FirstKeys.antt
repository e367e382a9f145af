-- An array of byte keys that has its first key, and inserts that are refused.
use Rattle.std.proofs.Common.{◌≡◌, ℕ, List, Option, Some, Result, Ok, Err, sym, ap, ◌∙◌}
use Rattle.std.specs.Prelude.{is_some}
use Rattle.std.specs.FinMap.{FinMap, empty, get, get-empty}
use Rattle.judy_model.specs.Keys.{byte_order}
use Rattle.judy_model.specs.Arrays.{ArrayOf, with_map, ins}
use Rattle.judy_model.proofs.lemmas.maps.ChangesLemmas.{ins_absent, get-write_same, write-write}
use Rattle.judy_model.proofs.lemmas.maps.TableLemmas.{byte_order_total, byte_order_same}
use Rattle.judy_sl.specs.Lends.{with_value}
use Rattle.judy_c.specs.declared.answers.InsertRefusal.{InsertRefusal}
use Rattle.judy_c.specs.KeyPuts.{IsStored}
use Rattle.judy_c.specs.NullArrays.{empty_keyed}

no_keys : FinMap byte_order ℕ
no_keys = empty

-- the array that had no key has the one that was written
module _ (before made : ArrayOf byte_order) (key : List ℕ) (null : before ≡ empty_keyed) where
  -- the value that it has
  pub one_held : (value : ℕ) → made ≡ with_value empty_keyed key value → get made.map key ≡ Some value
  unfolding no_keys
  one_held value one = ap (λ (array : ArrayOf byte_order). get array.map key) one ∙ get-write_same byte_order_total no_keys key value

  -- that is what an insert gives
  pub one_inserted : made ≡ with_value empty_keyed key 0 → get made.map key ≡ get (ins before.map key) key
  unfolding no_keys
  one_inserted one =
      ap (λ (array : ArrayOf byte_order). get array.map key) one
      ∙ ap (λ (map : FinMap byte_order ℕ). get map key) (sym (ins_absent no_keys key (ap is_some (get-empty byte_order key))))
      ∙ ap (λ (array : ArrayOf byte_order). get (ins array.map key) key) (sym null)

  -- another value of it is the only one
  pub one_written : made ≡ with_value empty_keyed key 0 → (value : ℕ) → with_value made key value ≡ with_value before key value
  unfolding no_keys
  one_written one value =
      ap (λ (array : ArrayOf byte_order). with_value array key value) one
      ∙ ap (with_map empty_keyed) (write-write byte_order_total no_keys key byte_order_same 0 value)
      ∙ ap (λ (array : ArrayOf byte_order). with_value array key value) (sym null)

-- what says that nothing changed may be said of something else
pub stored_so : {same other : Type 0} (IsKey : List ℕ → Type 0) (before after : ArrayOf byte_order) (key : List ℕ) (value : ℕ) (result : Result (Option ℕ) InsertRefusal) →
    (same → other) → IsStored IsKey before key value same result after → IsStored IsKey before key value other result after
stored_so IsKey before after key value (Ok was) so is = is
stored_so IsKey before after key value (Err refusal) so is = (is.0, so is.1)
