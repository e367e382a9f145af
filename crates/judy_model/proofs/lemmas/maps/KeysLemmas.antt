-- The keys of a map: they ascend, and they are what the map contains.
use Rattle.std.proofs.Common.{◌≡◌, ℕ, Bool, true, false, ◌&&◌, T, List, [], ◌∷◌, map, length, IsTrue, sym, refl, ap, ◌∙◌, Ordering, Less, is_lt}
use Rattle.std.specs.List.{AllByRecursion}
use Rattle.std.specs.List.Sorted.{IsStrictlySortedBy}
use Rattle.std.specs.Cmp.{IsTotalOrder}
use Rattle.std.specs.FinMap.{FinMap, IsAntisymmetric, keys, entries, entries_sorted, contains_key, contains_key-keys, len, len-entries, is_sorted, from_sorted, entries-from_sorted}
use Rattle.std.specs.FinMap.Entries.{below_all}
use Rattle.std.proofs.lemmas.List.{length-map}
use Rattle.judy_model.proofs.lemmas.orders.Orders.{less_is}
use Rattle.judy_model.proofs.lemmas.maps.Ascending.{Among, Among-list_any, list_any-from_among}

true_is : (test : Bool) → T test → test ≡ true
true_is true h = refl
true_is false h = absurd h

left_of : (left right : Bool) → T (left && right) → T left
left_of true right h = tt
left_of false right h = h

right_of : (left right : Bool) → T (left && right) → T right
right_of true right h = h
right_of false right h = absurd h

module _ {K : Type 0} (order : K → K → Ordering) where
  below_each : (x : K) (pairs : List (K × ℕ)) → T (below_all order x pairs) → AllByRecursion (λ other. order x other ≡ Less) (map (λ e. e.0) pairs)
  below_each x [] h = tt
  below_each x (pair ∷ pairs) h = (
    less_is (order x pair.0) (true_is (is_lt (order x pair.0)) (left_of (is_lt (order x pair.0)) (below_all order x pairs) h)),
    below_each x pairs (right_of (is_lt (order x pair.0)) (below_all order x pairs) h),
  )

  -- The keys of entries in order ascend.
  pub ascending_from_is_sorted : (pairs : List (K × ℕ)) → T (is_sorted order pairs) → IsStrictlySortedBy order (map (λ e. e.0) pairs)
  unfolding IsStrictlySortedBy
  ascending_from_is_sorted [] h = tt
  ascending_from_is_sorted (pair ∷ pairs) h =
      (below_each pair.0 pairs (left_of (below_all order pair.0 pairs) (is_sorted order pairs) h), ascending_from_is_sorted pairs (right_of (below_all order pair.0 pairs) (is_sorted order pairs) h))

  -- The keys of a map that is made of entries in order are theirs.
  pub keys-from_sorted : (pairs : List (K × ℕ)) → T (is_sorted order pairs) → keys (from_sorted {R = order} pairs) ≡ map (λ e. e.0) pairs
  keys-from_sorted pairs h = ap (map (λ e. e.0)) (entries-from_sorted order pairs h)

module _ {K : Type 0} {order : K → K → Ordering} where
  -- The keys of a map ascend.
  pub keys_ascending : (map : FinMap order ℕ) → IsStrictlySortedBy order (keys map)
  keys_ascending map = ascending_from_is_sorted order (entries map) (entries_sorted map)

  -- A map has as many keys as it is long.
  pub length-keys : (map : FinMap order ℕ) → length (keys map) ≡ len map
  length-keys map = length-map (entries map) (λ e. e.0) ∙ sym (len-entries map)

  module _ (total : IsTotalOrder order) (same : IsAntisymmetric order) where
    -- A key that a map contains is among its keys.
    pub among_keys : (map : FinMap order ℕ) (key : K) → IsTrue (contains_key map key) → Among (keys map) key
    among_keys map key held = Among-list_any total same (keys map) key (sym (contains_key-keys map key) ∙ held)

    -- The way back.
    pub contains_key-from_among : (map : FinMap order ℕ) (key : K) → Among (keys map) key → IsTrue (contains_key map key)
    contains_key-from_among map key here = contains_key-keys map key ∙ list_any-from_among total same (keys map) key here
