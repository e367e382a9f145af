-- A store: named arrays in the order in which they were made. (This project's own.)
use Rattle.std.specs.Prelude.{ℕ, ◌≤◌, IsTrue, List, ◌∷◌, [], ◌++◌, length, bytes_eq, Option, All}
use Rattle.std.specs.List.{IsDistinct}
use Rattle.std.specs.Map.{lookup, set_value, remove_entry, keys_of, values_of}
use Rattle.judy_model.specs.Arrays.{ArrayValue, IsArray, limit_of}
use Rattle.judy_model.specs.Tokens.{is_name}

-- The pairs of a name and an array. (The functions below serve lists of whatever stands beside names.)
abbrev pub Store : Type 0
Store = List (List ℕ × ArrayValue)

-- The array of a name.
abbrev pub array_named : {A : Type 0} → List (List ℕ × A) → List ℕ → Option A
array_named store name = lookup (bytes_eq name) store

-- The store with another array in the place of the one of that name.
abbrev pub with_array : {A : Type 0} → List (List ℕ × A) → List ℕ → A → List (List ℕ × A)
with_array store name array = set_value (bytes_eq name) store array

-- The store with one more array, which comes last.
abbrev pub with_new_array : {A : Type 0} → List (List ℕ × A) → List ℕ → A → List (List ℕ × A)
with_new_array store name array = store ++ (name, array) ∷ []

-- The store without the array of that name; the rest keep their order.
abbrev pub without_array : {A : Type 0} → List (List ℕ × A) → List ℕ → List (List ℕ × A)
without_array store name = remove_entry (bytes_eq name) store

-- What every store keeps: at most 64 arrays, names that are names and distinct, arrays that are arrays.
pub record IsStore (store : Store) : Type 0 where
  pub within_limit : length store ≤ 64
  pub names_are : All (λ name. IsTrue (is_name name)) (keys_of store)
  pub names_differ : IsDistinct bytes_eq (keys_of store)
  pub arrays_are : All IsArray (values_of store)

-- A store is regular where every array's limit is one that a script can give: at most 4,294,967,295.
abbrev pub IsRegular : Store → Type 0
IsRegular store = All (λ array. limit_of array ≤ 4294967295) (values_of store)
