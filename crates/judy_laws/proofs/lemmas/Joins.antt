-- What two maps have together: what each part answers, and how many keys it has.
use Rattle.std.proofs.Common.{◌≡◌, ℕ, suc, ◌+◌, Bool, true, false, cond, not, ◌&&◌, T, ◌↔◌, List, [], ◌∷◌, ◌++◌, map, length, filter, Option, Some, None, is_some}
use Rattle.std.proofs.Common.{refl, sym, ap, ◌∙◌, subst, arith, true≢false, Ordering, is_lt, is_le}
use Rattle.std.specs.Ordering.{is_ge, is_eq}
use Rattle.std.specs.Option.{option_or}
use Rattle.std.specs.Cmp.{IsTotalOrder}
use Rattle.std.specs.FinMap.{FinMap, IsAntisymmetric, find, empty, entries, entries_sorted, keys, contains_key, get, len, retain_keys, from_entries, is_sorted}
use Rattle.std.specs.FinMap.{same_map, get-empty, get-entries, get-from_entries, len-entries, len-empty, len-insert}
use Rattle.std.specs.FinMap.Entries.{below_all}
use Rattle.judy_model.specs.Counts.{count, keys_between, rank}
use Rattle.judy_model.specs.TwoMaps.{union, intersection, difference, symmetric_difference, IsSubset, IsDisjoint, HaveSameKeys}
use Rattle.judy_model.specs.Ranges.{within, outside, below, from_on}
use Rattle.judy_model.proofs.lemmas.orders.Orders.{less_is, ge_is_not_lt}
use Rattle.judy_model.proofs.lemmas.maps.Tests.{left_of, right_of, holds_test}
use Rattle.judy_model.proofs.lemmas.maps.KeysLemmas.{length-keys, among_keys, contains_key-from_among}
use Rattle.judy_model.proofs.lemmas.maps.TwoMapsLemmas.{find-append, get-union, get-intersection, get-difference, get-outside, get-below, get-from_on}
use Rattle.judy_laws.proofs.lemmas.Parts.{filter_alike, all_kept, kept_all, len-kept, len-halves}

-- ---- what both answer at one key

choice : (b : Bool) (found : Option ℕ) → cond (not b) found None ≡ cond b None found
choice true found = refl
choice false found = refl

of_symmetric : (ours theirs : Option ℕ) → option_or (cond (not (is_some theirs)) ours None) (cond (not (is_some ours)) theirs None) ≡ cond (is_some ours) (cond (is_some theirs) None ours) theirs
of_symmetric None None = refl
of_symmetric None (Some w) = refl
of_symmetric (Some v) None = refl
of_symmetric (Some v) (Some w) = refl

or_nothing : (found : Option ℕ) → option_or found None ≡ found
or_nothing None = refl
or_nothing (Some v) = refl

or_itself : (found : Option ℕ) → option_or found found ≡ found
or_itself None = refl
or_itself (Some v) = refl

or_known : (ours theirs : Option ℕ) → (is_some theirs ≡ true → is_some ours ≡ true) → option_or ours theirs ≡ ours
or_known None None known = refl
or_known None (Some w) known = absurd (true≢false (sym (known refl)))
or_known (Some v) theirs known = refl

apart_none : (ours theirs : Option ℕ) → cond (is_some (cond (not (is_some ours)) theirs None)) (cond (not (is_some theirs)) ours None) None ≡ None
apart_none None None = refl
apart_none None (Some w) = refl
apart_none (Some v) theirs = refl

no_common : (ours : Option ℕ) (b : Bool) → (is_some ours ≡ true → b ≡ false) → cond b ours None ≡ None
no_common None true apart = refl
no_common None false apart = refl
no_common (Some v) b apart = ap (λ b. cond b (Some v) None) (apart refl)

from_no_common : (ours : Option ℕ) (b : Bool) → cond b ours None ≡ None → is_some ours ≡ true → b ≡ false
from_no_common ours false none held = refl
from_no_common None true none held = absurd cc
from_no_common (Some v) true none held = absurd cc

joined : (b : Bool) (found : Option ℕ) → option_or (cond b found None) (cond (not b) found None) ≡ found
joined true None = refl
joined true (Some v) = refl
joined false found = refl

with_first : {K : Type 0} (b : Bool) (key : K) (common : List K) (n long m : ℕ) → n + length common ≡ long + m → cond b n (n + 1) + length (cond b (key ∷ common) common) ≡ suc long + m
with_first true key common n long m is = omega (arith, is)
with_first false key common n long m is = omega (arith, is)

module _ {K : Type 0} (order : K → K → Ordering) where
  -- A key below all others isn't among them.
  find-below_all : (key : K) (es : List (K × ℕ)) → T (below_all order key es) → find order key es ≡ None
  find-below_all key [] below = refl
  find-below_all key (e ∷ es) below =
      let less = less_is (order key e.0) (holds_test (is_lt (order key e.0)) (left_of (is_lt (order key e.0)) (below_all order key es) below)) in
      ap (λ answer. cond (is_eq answer) (Some e.1) (find order key es)) less ∙ find-below_all key es (right_of (is_lt (order key e.0)) (below_all order key es) below)

module _ {K : Type 0} {order : K → K → Ordering} (total : IsTotalOrder order) where
  len_joined : (es fs : List (K × ℕ)) → T (is_sorted order es) →
      len (from_entries {R = order} (es ++ fs)) + length (filter (contains_key (from_entries {R = order} fs)) (map (λ e. e.0) es)) ≡ length es + len (from_entries {R = order} fs)
  len_joined [] fs up = omega arith
  len_joined (e ∷ es) fs up =
      let all : FinMap order ℕ = from_entries (es ++ fs) in
      let back : FinMap order ℕ = from_entries fs in
      let absent = find-below_all order e.0 es (left_of (below_all order e.0 es) (is_sorted order es) up) in
      let found : get all e.0 ≡ get back e.0 =
      get-from_entries total (es ++ fs) e.0
      ∙ find-append order es fs e.0
      ∙ ap (λ (o : Option ℕ). option_or o (find order e.0 fs)) absent
      ∙ sym (get-from_entries total fs e.0) in
      let long = len-insert total all e.0 e.1 ∙ ap (λ (o : Option ℕ). cond (is_some o) (len all) (len all + 1)) found in
      let rest = len_joined es fs (right_of (below_all order e.0 es) (is_sorted order es) up) in
      ap (λ (n : ℕ). n + length (filter (contains_key back) (map (λ e. e.0) (e ∷ es)))) long
      ∙ with_first (contains_key back e.0) e.0 (filter (contains_key back) (map (λ e. e.0) es)) (len all) (length es) (len back) rest

module _ {K : Type 0} {order : K → K → Ordering} (total : IsTotalOrder order) (same : IsAntisymmetric order) where
  -- ---- look-ups

  pub difference_answers : (one other : FinMap order ℕ) (key : K) → get (difference one other) key ≡ cond (contains_key other key) None (get one key)
  difference_answers one other key = get-difference total same one other key ∙ choice (contains_key other key) (get one key)

  pub symmetric_difference_answers : (one other : FinMap order ℕ) (key : K) →
      get (symmetric_difference one other) key ≡ cond (contains_key one key) (cond (contains_key other key) None (get one key)) (get other key)
  unfolding symmetric_difference
  symmetric_difference_answers one other key =
      get-union total (difference one other) (difference other one) key
      ∙ (λ t. option_or (get-difference total same one other key t) (get-difference total same other one key t))
      ∙ of_symmetric (get one key) (get other key)

  pub outside_answers : (map : FinMap order ℕ) (from to key : K) → get (outside map from to) key ≡ cond (is_le (order from key) && is_le (order key to)) None (get map key)
  outside_answers map from to key = get-outside total same map from to key ∙ choice (is_le (order from key) && is_le (order key to)) (get map key)

  -- ---- how many keys

  own_entries : (map : FinMap order ℕ) → from_entries (entries map) ≡ map
  own_entries map = same_map total same (from_entries (entries map)) map (λ key. get-from_entries total (entries map) key ∙ sym (get-entries map key))

  pub len-intersection : (one other : FinMap order ℕ) → len (intersection one other) ≡ length (filter (contains_key other) (keys one))
  unfolding intersection
  len-intersection one other = len-kept total same one (contains_key other)

  pub union_counts : (one other : FinMap order ℕ) → len (union one other) + len (intersection one other) ≡ len one + len other
  unfolding union
  union_counts one other =
      ap (λ (n : ℕ). len (from_entries {R = order} (entries one ++ entries other)) + n) (len-intersection one other)
      ∙ subst
      (λ (back : FinMap order ℕ). len (from_entries {R = order} (entries one ++ entries other)) + length (filter (contains_key back) (keys one)) ≡ length (entries one) + len back)
      (own_entries other)
      (len_joined total (entries one) (entries other) (entries_sorted one))
      ∙ ap (λ (n : ℕ). n + len other) (sym (len-entries one))

  pub difference_counts : (one other : FinMap order ℕ) → len (difference one other) + len (intersection one other) ≡ len one
  unfolding difference intersection
  difference_counts one other = let all = len-halves total same one (contains_key other) in omega (arith, all)

  differences_apart : (one other : FinMap order ℕ) → intersection (difference one other) (difference other one) ≡ empty
  differences_apart one other = same_map total same _ _ (λ key.
      get-intersection total same (difference one other) (difference other one) key
      ∙ (λ t. cond (is_some (get-difference total same other one key t)) (get-difference total same one other key t) None)
      ∙ apart_none (get one key) (get other key)
      ∙ sym (get-empty order key))

  pub symmetric_difference_counts : (one other : FinMap order ℕ) → len (symmetric_difference one other) ≡ len (difference one other) + len (difference other one)
  unfolding symmetric_difference
  symmetric_difference_counts one other =
      let all = union_counts (difference one other) (difference other one) in
      let none = ap len (differences_apart one other) ∙ len-empty order ℕ in
      omega (arith, all, none)

  -- ---- relations

  pub subset_has_all : (one other : FinMap order ℕ) → IsSubset one other ↔ (len (intersection one other) ≡ len one)
  subset_has_all one other = (
    λ subset. len-intersection one other ∙ all_kept (contains_key other) (keys one) (λ key here. subset key (contains_key-from_among total same one key here)) ∙ length-keys one,
    λ as_many key held. kept_all (contains_key other) (keys one) (sym (len-intersection one other) ∙ as_many ∙ sym (length-keys one)) key (among_keys total same one key held),
  )

  pub disjoint_has_none : (one other : FinMap order ℕ) → IsDisjoint one other ↔ (intersection one other ≡ empty)
  disjoint_has_none one other = (
    λ apart. same_map total same (intersection one other) empty (λ key.
        get-intersection total same one other key ∙ no_common (get one key) (contains_key other key) (apart key) ∙ sym (get-empty order key)),
    λ none key held. from_no_common (get one key) (contains_key other key)
        (sym (get-intersection total same one other key) ∙ ap (λ (m : FinMap order ℕ). get m key) none ∙ get-empty order key) held,
  )

  pub same_keys_are_subsets : (one other : FinMap order ℕ) → HaveSameKeys one other ↔ (IsSubset one other × IsSubset other one)
  same_keys_are_subsets one other = (λ alike. (λ key held. (alike key).0 held, λ key held. (alike key).1 held), λ subsets key. (subsets.0 key, subsets.1 key))

  -- The other adds nothing to the one.
  pub union_with_subset : (one other : FinMap order ℕ) → IsSubset other one → union one other ≡ one
  union_with_subset one other subset = same_map total same (union one other) one (λ key. get-union total one other key ∙ or_known (get one key) (get other key) (subset key))

  pub same_keys_count : (one other : FinMap order ℕ) → HaveSameKeys one other → len one ≡ len other
  same_keys_count one other alike =
      let all = union_counts one other in
      let one_alone = ap len (union_with_subset one other (λ key held. (alike key).1 held)) in
      let both = (subset_has_all one other).0 (λ key held. (alike key).0 held) in
      omega (arith, all, one_alone, both)

  -- ---- a union with nothing, and with itself

  pub union_with_empty : (map : FinMap order ℕ) → (union map empty ≡ map) × (union empty map ≡ map)
  union_with_empty map = (
    same_map total same (union map empty) map (λ key. get-union total map empty key ∙ ap (option_or (get map key)) (get-empty order key) ∙ or_nothing (get map key)),
    same_map total same (union empty map) map (λ key. get-union total empty map key ∙ ap (λ (found : Option ℕ). option_or found (get map key)) (get-empty order key)),
  )

  pub union_with_itself : (map : FinMap order ℕ) → union map map ≡ map
  union_with_itself map = same_map total same (union map map) map (λ key. get-union total map map key ∙ or_itself (get map key))

  -- ---- parts

  pub within_counts : (map : FinMap order ℕ) (from to : K) → len (within map from to) ≡ count map from to
  unfolding within count keys_between
  within_counts map from to = len-kept total same map (λ key. is_le (order from key) && is_le (order key to))

  pub outside_counts : (map : FinMap order ℕ) (from to : K) → len (within map from to) + len (outside map from to) ≡ len map
  unfolding within outside
  outside_counts map from to = len-halves total same map (λ key. is_le (order from key) && is_le (order key to))

  pub below_counts : (map : FinMap order ℕ) (at : K) → len (below map at) ≡ rank map at
  unfolding below rank
  below_counts map at = len-kept total same map (λ key. is_lt (order key at))

  len-from_on : (map : FinMap order ℕ) (at : K) → len (from_on map at) ≡ len (retain_keys map (λ key. not (is_lt (order key at))))
  unfolding from_on
  len-from_on map at =
      len-kept total same map (λ key. is_ge (order key at))
      ∙ ap length (filter_alike (λ key. is_ge (order key at)) (λ key. not (is_lt (order key at))) (keys map) (λ key. ge_is_not_lt (order key at)))
      ∙ sym (len-kept total same map (λ key. not (is_lt (order key at))))

  pub from_on_counts : (map : FinMap order ℕ) (at : K) → len (below map at) + len (from_on map at) ≡ len map
  unfolding below
  from_on_counts map at =
      let all = len-halves total same map (λ key. is_lt (order key at)) in
      let back = len-from_on map at in
      omega (arith, all, back)

  pub halves_join : (map : FinMap order ℕ) (at : K) → union (below map at) (from_on map at) ≡ map
  halves_join map at = same_map total same (union (below map at) (from_on map at)) map (λ key.
      get-union total (below map at) (from_on map at) key
      ∙ (λ t. option_or (get-below total same map at key t) ((get-from_on total same map at key ∙ ap (λ b. cond b (get map key) None) (ge_is_not_lt (order key at))) t))
      ∙ joined (is_lt (order key at)) (get map key))
