-- What a handle that holds an array of strings, or none, stands for.
use Rattle.std.proofs.Common.{◌≡◌, ℕ, false, List, sym, ap, ◌∙◌, Option, None, IsFalse, not, ◌&&◌, ◌==◌}
use Rattle.std.specs.Prelude.{is_some}
use Rattle.std.specs.FinMap.{FinMap, get, contains_key, len, empty, get-empty, len-empty}
use Rattle.judy_model.specs.Keys.{byte_order}
use Rattle.judy_model.specs.Arrays.{ArrayOf, empty_array, with_map, del, is_full}
use Rattle.judy_model.proofs.lemmas.maps.SortedMaps.{remove_absent}
use Rattle.judy_model.proofs.lemmas.maps.TableLemmas.{byte_order_total, byte_order_same}

-- a key that is absent is taken out by no change
absent_deleted : (array : ArrayOf byte_order) (key : List ℕ) → get array.map key ≡ None → array ≡ with_map array (del array.map key)
absent_deleted array key absent = ap (with_map array) (sym (remove_absent byte_order_total byte_order_same array.map key absent))

-- an empty array has no key to take out
pub nothing_deleted : (array : ArrayOf byte_order) (key : List ℕ) → array ≡ empty_array 4294967295 → array ≡ with_map array (del array.map key)
nothing_deleted array key is = absent_deleted array key (ap (λ (a : ArrayOf byte_order). get a.map key) is ∙ get-empty byte_order key)

-- it doesn't have this key
pub nothing_there : (array : ArrayOf byte_order) (key : List ℕ) → array ≡ empty_array 4294967295 → false ≡ contains_key array.map key
nothing_there array key is = sym (ap (λ (a : ArrayOf byte_order). contains_key a.map key) is ∙ ap is_some (get-empty byte_order key))

-- it holds no key
pub nothing_held : (array : ArrayOf byte_order) (key : List ℕ) → array ≡ empty_array 4294967295 → get array.map key ≡ None
nothing_held array key is = ap (λ (a : ArrayOf byte_order). get a.map key) is ∙ get-empty byte_order key

-- and there is room in it
pub room_in_null : (array : ArrayOf byte_order) (key : List ℕ) → array ≡ empty_array 4294967295 → IsFalse (is_full array key)
room_in_null array key is =
    let none : FinMap byte_order ℕ = empty in
    ap (λ (a : ArrayOf byte_order). is_full a key) is
    ∙ ap (λ (found : Option ℕ). not (is_some found) && (len none == 4294967295)) (get-empty byte_order key)
    ∙ ap (λ n. n == 4294967295) (len-empty byte_order ℕ)
