-- Lists of keys that ascend, and the pairs of a map.
use Rattle.std.proofs.Common.{◌≡◌, ℕ, suc, ◌+◌, ◌^◌, ◌≤◌, Bool, true, false, cond, List, [], ◌∷◌, map, length, Option, Some, None, refl, ap, ◌∙◌, arith, is_le}
use Rattle.std.specs.List.{AllByRecursion}
use Rattle.judy_model.specs.Keys.{IsWord, word_order}
use Rattle.judy_model.proofs.lemmas.orders.WordOrder.{le_from_word}
use Rattle.judy_leaf.specs.KeyLists.{keys_of, values_of}
use Rattle.judy_node.specs.Trees.{Pairs, IsMap}
use Rattle.judy_word.specs.Sorted.{ascending_from, pairs_in}

-- The least word that may come behind a key, or at the beginning.
abbrev pub low_after : Option ℕ → ℕ
low_after None = 0
low_after (Some key) = suc key

-- No more ascend than there are.
pub at_most : {A : Type 0} (key_of : A → ℕ) (low : ℕ) (items : List A) → ascending_from low (map key_of items) ≤ length items
at_most key_of low [] = omega arith
at_most key_of low (item ∷ items) =
    elim (is_le (word_order low (key_of item))) as (λ test. cond test (suc (ascending_from (suc (key_of item)) (map key_of items))) 0 ≤ suc (length items)) [
      | true ↦ omega (arith, at_most key_of (suc (key_of item)) items)
      | false ↦ omega arith
    ]

-- Where all ascend, the first isn't too low, and the others ascend from there on.
all_more : (test : Bool) (rest all : ℕ) → cond test (suc rest) 0 ≡ suc all → (test ≡ true) × (rest ≡ all)
all_more true rest all whole = (refl, omega (arith, whole))
all_more false rest all whole = absurd (omega (arith, whole))

-- Pairs whose keys are words that strictly ascend are a map.
pub map_of_sorted : (words low : ℕ) (pairs : Pairs) → ascending_from low (keys_of pairs) ≡ length (keys_of pairs) → AllByRecursion IsWord (keys_of pairs) →
    (words ≡ 0 → AllByRecursion (λ value. value ≡ 0) (values_of pairs))
    → IsMap words low (256 ^ 8) pairs
map_of_sorted words low [] whole small zeros = tt
map_of_sorted words low (pair ∷ pairs) whole small zeros =
    let told = all_more (is_le (word_order low pair.0)) (ascending_from (suc pair.0) (keys_of pairs)) (length (keys_of pairs)) whole in
    let fits = small.0 in (
      le_from_word low pair.0 told.0,
      omega (arith, fits),
      λ none. (zeros none).0,
      map_of_sorted words (pair.0 + 1) pairs (ap (λ next. ascending_from next (keys_of pairs)) (let e : pair.0 + 1 ≡ suc pair.0 = omega arith in e) ∙ told.1) small.1 (λ none. (zeros none).1),
    )

pub map_itself : (keys : List ℕ) → map (λ (key : ℕ). key) keys ≡ keys
map_itself [] = refl
map_itself (key ∷ keys) = ap (λ rest. key ∷ rest) (map_itself keys)

-- What becomes a pair keeps its key.
pub keys_kept : {A : Type 0} (key_of value_of : A → ℕ) (items : List A) → keys_of (pairs_in key_of value_of items) ≡ map key_of items
keys_kept key_of value_of [] = refl
keys_kept key_of value_of (item ∷ items) = ap (λ rest. key_of item ∷ rest) (keys_kept key_of value_of items)

pub values_kept : {A : Type 0} (key_of value_of : A → ℕ) (items : List A) → values_of (pairs_in key_of value_of items) ≡ map value_of items
values_kept key_of value_of [] = refl
values_kept key_of value_of (item ∷ items) = ap (λ rest. value_of item ∷ rest) (values_kept key_of value_of items)

-- Words have no value but 0.
pub all_zero : (keys : List ℕ) → AllByRecursion (λ (value : ℕ). value ≡ 0) (map (λ (key : ℕ). 0) keys)
all_zero [] = tt
all_zero (key ∷ keys) = (refl, all_zero keys)
