-- What is done to a shelf's entries is done to its store.
use Rattle.std.proofs.Common.{◌≡◌, ℕ, true, false, cond, List, [], ◌∷◌, length, Some, None, refl, ap}
use Rattle.std.specs.Prelude.{bytes_eq, option_map}
use Rattle.std.proofs.lemmas.List.{length-map}
use Rattle.judy_model.specs.Stores.{Store, array_named, with_array, with_new_array, without_array}
use Rattle.judy_shelf.specs.declared.array.Array.{Array}
use Rattle.judy_shelf.specs.Arrays.{value_of}
use Rattle.judy_shelf.specs.Shelves.{Entries, store_of}

pub array_named-store_of : (entries : Entries) (name : List ℕ) → array_named (store_of entries) name ≡ option_map value_of (array_named entries name)
array_named-store_of [] name = refl
array_named-store_of (entry ∷ entries) name =
    elim (bytes_eq name entry.0) as (λ b. cond b (Some (value_of entry.1)) (array_named (store_of entries) name) ≡ option_map value_of (cond b (Some entry.1) (array_named entries name))) [
      | true ↦ refl
      | false ↦ array_named-store_of entries name
    ]

pub with_array-store_of : (entries : Entries) (name : List ℕ) (array : Array) → with_array (store_of entries) name (value_of array) ≡ store_of (with_array entries name array)
with_array-store_of [] name array = refl
with_array-store_of (entry ∷ entries) name array =
    elim (bytes_eq name entry.0) as (λ b. cond b ((entry.0, value_of array) ∷ store_of entries) ((entry.0, value_of entry.1) ∷ with_array (store_of entries) name (value_of array)) ≡
    store_of (cond b ((entry.0, array) ∷ entries) (entry ∷ with_array entries name array))) [
      | true ↦ refl
      | false ↦ ap (λ rest. (entry.0, value_of entry.1) ∷ rest) (with_array-store_of entries name array)
    ]

pub with_new_array-store_of : (entries : Entries) (name : List ℕ) (array : Array) → with_new_array (store_of entries) name (value_of array) ≡ store_of (with_new_array entries name array)
with_new_array-store_of [] name array = refl
with_new_array-store_of (entry ∷ entries) name array = ap (λ rest. (entry.0, value_of entry.1) ∷ rest) (with_new_array-store_of entries name array)

pub length-store_of : (entries : Entries) → length (store_of entries) ≡ length entries
length-store_of entries = length-map entries _

pub without_array-store_of : (entries : Entries) (name : List ℕ) → without_array (store_of entries) name ≡ store_of (without_array entries name)
without_array-store_of [] name = refl
without_array-store_of (entry ∷ entries) name =
    elim (bytes_eq name entry.0) as (λ b. cond b (store_of entries) ((entry.0, value_of entry.1) ∷ without_array (store_of entries) name) ≡
    store_of (cond b entries (entry ∷ without_array entries name))) [
      | true ↦ refl
      | false ↦ ap (λ rest. (entry.0, value_of entry.1) ∷ rest) (without_array-store_of entries name)
    ]

-- taking out what isn't there changes nothing
pub without_array-absent : (store : Store) (name : List ℕ) → array_named store name ≡ None → without_array store name ≡ store
without_array-absent [] name none = refl
without_array-absent (entry ∷ store) name none =
    elim (bytes_eq name entry.0) as (λ b. cond b (Some entry.1) (array_named store name) ≡ None → cond b store (entry ∷ without_array store name) ≡ entry ∷ store) [
      | true ↦ λ e. absurd (cc)
      | false ↦ λ e. ap (λ rest. entry ∷ rest) (without_array-absent store name e)
    ] none
