-- The pairs of a map of strings, and those of a list of entries, in turn.
use Rattle.std.proofs.Common.{◌≡◌, ◌<◌, ◌≤◌, ◌+◌, ℕ, zero, suc, Bool, true, false, List, [], ◌∷◌, length, drop, slice_get, get_or, Option, Some, None, option_map, unwrap_or, refl}
use Rattle.std.proofs.Common.{sym, ap, subst, ◌∙◌, if◌then◌else◌}
use Rattle.std.proofs.Math.ListN.{drop_of_length-le}
use Rattle.std.proofs.Math.Numerals.{add-one}
use Rattle.std.proofs.lemmas.List.{length-map}
use Rattle.std.specs.Cmp.{tied_itself}
use Rattle.std.specs.Cmp.Lexicographic.{nat_list_cmp_total}
use Rattle.std.specs.declared.cmp.Ordering.{Ordering}
use Rattle.std.specs.FinMap.{FinMap, empty, keys, entries, entries_sorted, get, get-empty, get-entries, len-entries, len-empty}
use Rattle.std.proofs.lemmas.Option.{slice_get-map, slice_get-get_or, slice_get_within, get_or_from_slice_get, same_Some}
use Rattle.judy_model.specs.Arrays.{ArrayOf, empty_array}
use Rattle.judy_model.specs.Keys.{byte_order}
use Rattle.judy_model.specs.Counts.{rank, count_up_to}
use Rattle.judy_model.proofs.lemmas.maps.Pairs.{find-at}
use Rattle.judy_model.proofs.lemmas.queries.RankLemmas.{first-slice_get, next-slice_get, count_up_to_at}
use Rattle.judy_hs.specs.declared.entry.HsEntry.{HsEntry}
use Rattle.judy_hs.specs.Listed.{entries_in, key_bytes}
use Rattle.judy_sl.specs.Scans.{value_found}
use Rattle.judy_c.specs.KeyWalks.{pairs_from, beside}
use Rattle.judy_c.specs.Told.{IsTold}

-- a list from a place on
pub drop_some : {A : Type 0} (xs : List A) (place : ℕ) (x : A) → slice_get xs place ≡ Some x → drop place xs ≡ x ∷ drop (suc place) xs
drop_some [] place x at = cc
drop_some (y ∷ xs) zero x at = let same : y ≡ x = cc in ap (λ z. z ∷ xs) same
drop_some (y ∷ xs) (suc place) x at = drop_some xs place x at

pub drop_none : {A : Type 0} (xs : List A) (place : ℕ) → slice_get xs place ≡ None → drop place xs ≡ []
drop_none [] zero at = refl
drop_none [] (suc place) at = refl
drop_none (y ∷ xs) zero at = cc
drop_none (y ∷ xs) (suc place) at = drop_none xs place at

nothing_in : {A : Type 0} (xs : List A) → length xs ≡ 0 → xs ≡ []
nothing_in [] is = refl
nothing_in (x ∷ xs) is = absurd cc

-- a map without keys has no pairs
pub no_pairs : {K : Type 0} (order : K → K → Ordering) → entries (empty {X = ℕ} {R = order}) ≡ []
no_pairs order = nothing_in (entries empty) (sym (len-entries empty) ∙ len-empty order ℕ)

-- nor has it a key, so that none is told
pub none_told : {K : Type 0} (order : K → K → Ordering) (array : ArrayOf order) (limit : ℕ) (key : K) (told : ℕ) → array ≡ empty_array limit → IsTold (get array.map key) false told told
none_told order array limit key told is =
    subst (λ (found : Option ℕ). IsTold found false told told) (sym (ap (λ (all : ArrayOf order). get all.map key) is ∙ get-empty order key)) (refl, refl)

-- from no place on does an empty list go on
pub drop_nil : {A : Type 0} (n : ℕ) → let none : List A = [] in drop n none ≡ none
drop_nil zero = refl
drop_nil (suc n) = refl

module _ (m : FinMap byte_order ℕ) where
  -- where the pairs from a string on begin
  abbrev place_of : List ℕ → Bool → ℕ
  place_of from itself = if itself then rank m from else count_up_to m from

  beside-slice_get : (from : List ℕ) (itself : Bool) → beside m from itself ≡ slice_get (keys m) (place_of from itself)
  beside-slice_get from true = first-slice_get nat_list_cmp_total m from
  beside-slice_get from false = next-slice_get nat_list_cmp_total m from

  entry_of : (place : ℕ) (key : List ℕ) (found : Option (List ℕ × ℕ)) → slice_get (entries m) place ≡ found → option_map (λ e. e.0) found ≡ Some key →
      (value : ℕ) × (get m key ≡ Some value) × (slice_get (entries m) place ≡ Some (key, value))
  entry_of place key None at is = absurd cc
  entry_of place key (Some pair) at is =
      let same : pair.0 ≡ key = cc in
      let within = slice_get_within (entries m) place pair at in
      let there = get_or_from_slice_get (entries m) place pair pair at in
      let held : get m key ≡ Some pair.1 = get-entries m key ∙ find-at byte_order nat_list_cmp_total (entries m) key place pair (entries_sorted m) within
      (ap (λ e. byte_order e.0 key) there ∙ ap (λ k. byte_order k key) same ∙ tied_itself nat_list_cmp_total key) ∙ ap (λ e. Some e.1) there in
      (pair.1, held, at ∙ ap Some (λ t. (same t, pair.1)))

  none_of : (found : Option (List ℕ × ℕ)) → option_map (λ e. e.0) found ≡ None → found ≡ None
  none_of None is = refl
  none_of (Some pair) is = absurd cc

  -- where a key is beside a string, the pairs from there on are its own and those above it
  pub pairs_some : (from key : List ℕ) (itself : Bool) → beside m from itself ≡ Some key → (value : ℕ) × (get m key ≡ Some value) × (pairs_from m from itself ≡ (key, value) ∷ pairs_from m key false)
  pairs_some from key itself is =
      let place = place_of from itself in
      let at : slice_get (keys m) place ≡ Some key = sym (beside-slice_get from itself) ∙ is in
      let entry = entry_of place key (slice_get (entries m) place) refl (sym (slice_get-map (λ e. e.0) (entries m) place) ∙ at) in
      (entry.0, entry.1, drop_some (entries m) place (key, entry.0) entry.2 ∙ ap (λ n. (key, entry.0) ∷ drop n (entries m)) (sym (count_up_to_at nat_list_cmp_total m place key at)))

  -- and where none is, there are none
  pub pairs_none : (from : List ℕ) (itself : Bool) → beside m from itself ≡ None → pairs_from m from itself ≡ []
  pairs_none from itself is =
      let place = place_of from itself in
      let at : slice_get (keys m) place ≡ None = sym (beside-slice_get from itself) ∙ is in
      drop_none (entries m) place (none_of (slice_get (entries m) place) (sym (slice_get-map (λ e. e.0) (entries m) place) ∙ at))

  -- a step of a walk to a key: its value is told, and what comes is its pair and those above it
  pub steps : (from key : List ℕ) (itself : Bool) (value : ℕ) (looked : Option (List ℕ)) → beside m from itself ≡ looked → key ≡ unwrap_or looked from →
      Some value ≡ value_found m looked → (get m key ≡ Some value) × (pairs_from m from itself ≡ (key, value) ∷ pairs_from m key false)
  steps from key itself value None is at told = absurd cc
  steps from key itself value (Some found) is at told =
      let there = pairs_some from found itself is in
      let same : there.0 ≡ value = same_Some there.0 value (sym there.1 ∙ sym told) in
      (ap (get m) at ∙ sym told, there.2 ∙ (λ t. (sym at t, same t) ∷ pairs_from m (sym at t) false))

  -- a step that leads nowhere
  pub ends : (from : List ℕ) (itself : Bool) (looked : Option (List ℕ)) → beside m from itself ≡ looked → None ≡ value_found m looked → pairs_from m from itself ≡ []
  ends from itself None is told = pairs_none from itself is
  ends from itself (Some key) is told = absurd (let held = (pairs_some from key itself is).1 in cc)

-- ---- a list of entries

-- the pairs from a place on begin with the one at it
pub entries_some : (list : List HsEntry) (place : ℕ) (entry : HsEntry) → place < length list → entry ≡ get_or list place entry →
    drop place (entries_in list) ≡ (key_bytes entry.key, entry.value) ∷ drop (place + 1) (entries_in list)
entries_some list place entry within is =
    let at : slice_get (entries_in list) place ≡ Some (key_bytes entry.key, entry.value) = slice_get-map (λ entry. (key_bytes entry.key, entry.value)) list place ∙
    ap (option_map (λ entry. (key_bytes entry.key, entry.value))) (slice_get-get_or list place entry within ∙ ap Some (sym is)) in
    drop_some (entries_in list) place (key_bytes entry.key, entry.value) at ∙ ap (λ n. (key_bytes entry.key, entry.value) ∷ drop n (entries_in list)) (sym (add-one place))

-- and none are behind its end
pub entries_none : (list : List HsEntry) (place : ℕ) → length list ≤ place → drop place (entries_in list) ≡ []
entries_none list place past = drop_of_length-le (entries_in list) (subst (λ n. n ≤ place) (sym (length-map list (λ entry. (key_bytes entry.key, entry.value)))) past)
