-- Commands of one array, by what they do to that array.
use Rattle.std.proofs.Common.{◌≡◌, ℕ, Bool, true, false, cond, List, Option, Some, None, Result, Ok, Err, ok_or, refl, sym, ap, ◌∙◌}
use Rattle.std.specs.Prelude.{bytes_eq, option_map, unwrap_or}
use Rattle.std.specs.declared.cmp.Ordering.{Ordering}
use Rattle.std.specs.Cmp.{IsTotalOrder}
use Rattle.std.specs.FinMap.{FinMap, get, IsAntisymmetric}
use Rattle.std.proofs.lemmas.Map.Steps.{set_value_same}
use Rattle.std.proofs.lemmas.Option.{same_Some}
use Rattle.judy_model.specs.Arrays.{ArrayOf, ArrayValue, ins, write, is_full, with_map, len_of}
use Rattle.judy_model.specs.Tokens.{is_name}
use Rattle.judy_model.specs.Stores.{Store, array_named, with_array, without_array}
use Rattle.judy_model.specs.Replies.{Reply, Refusal, was, freed, bad_name, no_such_array}
use Rattle.judy_model.specs.Commands.{Outcome, ◌>>=◌, name_at, array_at, within, at_name, dropped, inserted}
use Rattle.judy_model.proofs.lemmas.maps.ChangesLemmas.{write-ins, get-ins_same}
use Rattle.judy_shelf.specs.declared.array.Array.{Array}
use Rattle.judy_shelf.specs.Arrays.{value_of}
use Rattle.judy_shelf.specs.Shelves.{Entries, store_of}
use Rattle.judy_shelf.proofs.ShelfLemmas.{array_named-store_of, with_array-store_of, without_array-store_of, without_array-absent}
use Rattle.judy_command.specs.Follows.{Follows}
use Rattle.judy_command.specs.Lends.{named}

-- what happens to the array of a name happens to the store
Follows-within : (before : Store) (name : List ℕ) (array after : ArrayValue) (effect : Result (Outcome ArrayValue) Refusal) (reply : Reply) →
    array_named before name ≡ Some array → Follows array effect reply after → Follows before (effect >>= (λ outcome. Ok (within before name outcome))) reply (with_array before name after)
Follows-within before name array after (Ok outcome) (Ok answer) there h = (h.0, ap (with_array before name) h.1)
Follows-within before name array after (Ok outcome) (Err refusal) there h =
    (h.0, h.1, ap (with_array before name) h.2 ∙ set_value_same (bytes_eq name) before array there)
Follows-within before name array after (Err first) (Ok answer) there h = h
Follows-within before name array after (Err first) (Err refusal) there h =
    (h.0, ap (with_array before name) h.1 ∙ set_value_same (bytes_eq name) before array there)

-- what a token names is an array of the store, by that name
there : (store : Store) (name : List ℕ) (array : ArrayValue) (found : Option ArrayValue) → Ok array ≡ ok_or found no_such_array → found ≡ Some array
there store name array None e = absurd (cc)
there store name array (Some other) e = cc

is_there : (is : Bool) (store : Store) (token : List ℕ) (array : ArrayValue) → Ok array ≡ (ok_or (cond is (Some token) None) bad_name >>= array_at store) →
    (cond is (Some token) None ≡ Some token) × (array_named store token ≡ Some array)
is_there true store token array e = (refl, there store token array (array_named store token) e)
is_there false store token array e = absurd (cc)

-- the array that a token names, and why there is none
pub named-found : (entries : Entries) (token : List ℕ) → is_name token ≡ true → (array : Array) → array_named entries token ≡ Some array → named (store_of entries) token ≡ Ok (value_of array)
named-found entries token is array here = rw (is, array_named-store_of entries token, here) refl

pub named-none : (entries : Entries) (token : List ℕ) → array_named entries token ≡ None → (refusal : Refusal) → refusal ≡ cond (is_name token) no_such_array bad_name →
    Err refusal ≡ named (store_of entries) token
named-none entries token none refusal is =
    let missing : array_named (store_of entries) token ≡ None = array_named-store_of entries token ∙ ap (option_map value_of) none in
    elim (is_name token) as (λ b. refusal ≡ cond b no_such_array bad_name → Err refusal ≡ (ok_or (cond b (Some token) None) bad_name >>= array_at (store_of entries))) [
      | true ↦ λ e. rw (missing, e) refl
      | false ↦ λ e. ap Err e
    ] is

module _ (entries : Entries) (token : List ℕ) where
  -- the name that the token says
  module _ (name : List ℕ) (said : name_at token ≡ Ok name) where
    -- an array that is dropped, and one that isn't there
    pub Follows-dropped : (array : Array) (left : Entries) → array_named entries name ≡ Some array → left ≡ without_array entries name →
        Follows (store_of entries) (dropped (store_of entries) token) (Ok (freed (len_of (value_of array)))) (store_of left)
    Follows-dropped array left here same =
        rw (said, array_named-store_of entries name, here, same) (refl, sym (without_array-store_of entries name))

    pub Follows-not_dropped : (left : Entries) → array_named entries name ≡ None → left ≡ without_array entries name →
        Follows (store_of entries) (dropped (store_of entries) token) (Err no_such_array) (store_of left)
    Follows-not_dropped left none same =
        let missing : array_named (store_of entries) name ≡ None = array_named-store_of entries name ∙ ap (option_map value_of) none in
        rw (said, missing, same) (refl, sym (without_array-store_of entries name) ∙ without_array-absent (store_of entries) name missing)

  -- a command of one array follows what it does to that array
  pub Follows-at_name : (effect : ArrayValue → Result (Outcome ArrayValue) Refusal) (array after : Array) (left : Entries) (reply : Reply) →
      Ok (value_of array) ≡ named (store_of entries) token → left ≡ with_array entries token after → Follows (value_of array) (effect (value_of array)) reply (value_of after)
      → Follows (store_of entries) (at_name (store_of entries) token effect) reply (store_of left)
  Follows-at_name effect array after left reply is same h =
      let found = is_there (is_name token) (store_of entries) token (value_of array) is in
      rw (found.0, found.1, same, ← with_array-store_of entries token after)
      (Follows-within (store_of entries) token (value_of array) (value_of after) (effect (value_of array)) reply found.1 h)

-- an insert that isn't refused
module _ {K : Type 0} {order : K → K → Ordering} (total : IsTotalOrder order) (same : IsAntisymmetric order) (kind : ArrayOf order → ArrayValue) (array : ArrayOf order) (key : K) where
  pub Follows-inserted : (value slot : ℕ) → is_full array key ≡ false → Some slot ≡ get (ins array.map key) key →
      Follows (kind array) (inserted kind array key value) (Ok (was slot)) (kind (with_map array (write array.map key value)))
  Follows-inserted value slot room there =
      rw (room, ← there) (refl, ap (λ map. kind (with_map array map)) (sym (write-ins total array.map key same value)))

-- the value in the slot of an insert is the one that the key had, or 0
pub slot_was : {K : Type 0} {order : K → K → Ordering} (total : IsTotalOrder order) (map : FinMap order ℕ) (key : K) (slot : ℕ) → Some slot ≡ get (ins map key) key → slot ≡ unwrap_or (get map key) 0
slot_was total map key slot there = same_Some slot (unwrap_or (get map key) 0) (there ∙ get-ins_same total map key)
