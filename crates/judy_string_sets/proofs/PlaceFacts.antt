-- A walk from place to place, and the key at the place to which a count leads.
use Rattle.std.proofs.Common.{◌≡◌, ℕ, zero, suc, ◌≤◌, true, false, List, [], length, filter, slice_get, Option, Some, None, MatchOption, unwrap_or, refl, sym, ap, ◌∙◌, subst, arith}
use Rattle.std.proofs.Common.{inr, ⊎_elim, ◌&&◌, is_le}
use Rattle.std.proofs.lemmas.Bool.{cases_lt}
use Rattle.std.proofs.lemmas.Option.{none-some, slice_get_cases}
use Rattle.std.specs.FinMap.{empty, keys, len, contains_key}
use Rattle.judy_model.specs.Keys.{byte_order}
use Rattle.judy_model.specs.Nearest.{IsLeast}
use Rattle.judy_model.specs.Neighbours.{first, next, last}
use Rattle.judy_model.specs.Counts.{count, rank, by_count}
use Rattle.judy_model.proofs.lemmas.maps.TableLemmas.{byte_order_total, byte_order_same}
use Rattle.judy_model.proofs.lemmas.maps.KeysLemmas.{keys_ascending, length-keys}
use Rattle.judy_model.proofs.lemmas.maps.MapsOfPairs.{last-is, count_up_to-is, by_count-is}
use Rattle.judy_model.proofs.lemmas.queries.CountsLemmas.{by_count_none, empty_string_is_least}
use Rattle.judy_model.proofs.lemmas.queries.Places.{find_before_count, le-IsDownward}
use Rattle.judy_model.proofs.lemmas.queries.RankLemmas.{first-slice_get, next-slice_get, by_count-suc, rank_is, count_up_to_at, count_from_least}
use Rattle.judy_sl.specs.Scans.{value_found}
use Rattle.judy_string_sets.specs.Walks.{Strings, IsTaken, to_come}
use Rattle.judy_string_sets.specs.Ways.{behind}
use Rattle.judy_string_sets.proofs.WalkFacts.{walked, stepped, first_least, next_least, all_to_come, on_side}

module _ (m : Strings) where
  -- ---- the key behind a place

  none_below : rank m [] ≡ 0
  none_below = rank_is byte_order_total m [] 0 (omega arith) (λ k x at before. absurd (omega (arith, before))) (λ k x at after. empty_string_is_least x)

  first_there : first m [] ≡ by_count m 1
  first_there = first-slice_get byte_order_total m [] ∙ ap (slice_get (keys m)) none_below ∙ sym (by_count-suc byte_order_total m 0)

  next_there : (n : ℕ) (key : List ℕ) → by_count m (suc n) ≡ Some key → next m key ≡ by_count m (suc (suc n))
  next_there n key is =
      next-slice_get byte_order_total m key ∙ ap (slice_get (keys m)) (count_up_to_at byte_order_total m n key (sym (by_count-suc byte_order_total m n) ∙ is))
      ∙ sym (by_count-suc byte_order_total m (suc n))

  key_at : (n : ℕ) → suc n ≤ len m → (key : List ℕ) × (by_count m (suc n) ≡ Some key)
  key_at n within = ⊎_elim
      (λ some. (some.0, by_count-suc byte_order_total m n ∙ some.2))
      (λ past. let long = length-keys m in let reached : length (keys m) ≤ n = past.0 in absurd (omega (arith, long, reached, within)))
      (slice_get_cases (keys m) n).1

  -- ---- a step

  -- What is taken is the key that was found, whatever the walk stays at where none is.
  by_found : (found : Option (List ℕ)) (value : Option ℕ) (now : Strings) (at : List ℕ) → value ≡ value_found m found
      → MatchOption value (now ≡ empty) (λ v. IsTaken now (unwrap_or found at) v (to_come true m (unwrap_or found at)))
      → MatchOption value (now ≡ empty) (λ v. IsTaken now (unwrap_or found []) v (to_come true m (unwrap_or found [])))
  by_found None None now at is step = step
  by_found None (Some v) now at is step = absurd (none-some v (sym is))
  by_found (Some key) value now at is step = step

  one_on : (n : ℕ) → n ≤ len m → (value : Option ℕ) → value ≡ value_found m (by_count m (suc n)) →
      MatchOption value (behind m n ≡ empty) (λ v. IsTaken (behind m n) (unwrap_or (by_count m (suc n)) []) v (behind m (suc n)))
  one_on zero within value is =
      let after = unwrap_or (by_count m 1) [] in
      stepped m (to_come true m after) m [] after false value (all_to_come m) refl
      (walked m [] after false (by_count m 1) value (subst (IsLeast byte_order (λ key. contains_key m key && on_side false [] key)) first_there (first_least m [])) refl is)
  one_on (suc n) within value is =
      let at = unwrap_or (by_count m (suc n)) [] in
      let key = key_at n within in
      let there : next m at ≡ by_count m (suc (suc n)) = ap (next m) (ap (λ (o : Option (List ℕ)). unwrap_or o []) key.1) ∙ next_there n key.0 key.1 in
      by_found (by_count m (suc (suc n))) value (to_come true m at) at is
      (walked m at (unwrap_or (by_count m (suc (suc n))) at) true (by_count m (suc (suc n))) value
      (subst (IsLeast byte_order (λ key. contains_key m key && on_side true at key)) there (next_least m at)) refl is)

  module _ (n k : ℕ) (within : n ≤ len m) (next_place : k ≡ suc n) where
    pub place_taken : (value : ℕ) → value_found m (by_count m k) ≡ Some value → IsTaken (behind m n) (unwrap_or (by_count m k) []) value (behind m k)
    place_taken value is =
        subst (λ j. value_found m (by_count m j) ≡ Some value → IsTaken (behind m n) (unwrap_or (by_count m j) []) value (behind m j)) (sym next_place)
        (λ found. one_on n within (Some value) (sym found)) is

    pub place_end : by_count m k ≡ None → behind m n ≡ empty
    place_end none = one_on n within None (sym (ap (value_found m) (ap (by_count m) (sym next_place) ∙ none)))

  -- A place at which a key stands is one of so many.
  pub place_inside : (k : ℕ) (found : Option (List ℕ)) (value : ℕ) → by_count m k ≡ found → value_found m found ≡ Some value → k ≤ len m
  place_inside k None value at is = absurd (none-some value is)
  place_inside k (Some key) value at is = ⊎_elim
      (λ past. absurd (none-some key (sym ((by_count_none byte_order_total byte_order_same m k).1 (inr past)) ∙ at)))
      (λ inside. inside)
      (cases_lt (len m) k)

  -- ---- the greatest key up to some bytes

  -- It stands where as many keys are up to them.
  pub last_counted : (bytes : List ℕ) → by_count m (count m [] bytes) ≡ last m bytes
  last_counted bytes =
      ap (by_count m) (count_from_least byte_order_total m [] empty_string_is_least bytes ∙ count_up_to-is m bytes)
      ∙ by_count-is m (length (filter (λ key. is_le (byte_order key bytes)) (keys m)))
      ∙ sym (last-is m bytes ∙ find_before_count byte_order (λ key. is_le (byte_order key bytes)) (le-IsDownward byte_order_total bytes) (keys m) (keys_ascending m))
