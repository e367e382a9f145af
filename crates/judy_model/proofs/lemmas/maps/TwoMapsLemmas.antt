-- What the union, the intersection and the differences of two maps answer at each key, and so the parts of a map.
use Rattle.std.proofs.Common.{◌≡◌, ℕ, Bool, true, false, cond, not, ◌&&◌, List, [], ◌∷◌, ◌++◌, Some, None, sym, refl, ap, ◌∙◌, Ordering, is_lt, is_le}
use Rattle.std.specs.Ordering.{eq_by_cmp, is_ge}
use Rattle.std.specs.Cmp.{IsTotalOrder}
use Rattle.std.specs.Option.{option_or}
use Rattle.std.specs.FinMap.{FinMap, IsAntisymmetric, entries, find, get, contains_key, retain_keys, get-entries, get-from_entries, get-retain_keys}
use Rattle.judy_model.specs.TwoMaps.{union, intersection, difference}
use Rattle.judy_model.specs.Ranges.{within, outside, below, from_on}

module _ {K : Type 0} (order : K → K → Ordering) where
  -- What stands at the front of a list is found before what stands behind it.
  pub find-append : (front back : List (K × ℕ)) (key : K) → find order key (front ++ back) ≡ option_or (find order key front) (find order key back)
  find-append [] back key = refl
  find-append (entry ∷ front) back key =
      elim (eq_by_cmp order key entry.0) as (λ b. cond b (Some entry.1) (find order key (front ++ back)) ≡ option_or (cond b (Some entry.1) (find order key front)) (find order key back)) [
        | true ↦ refl
        | false ↦ find-append front back key
      ]

module _ {K : Type 0} {order : K → K → Ordering} (total : IsTotalOrder order) where
  -- A union answers what the one has, and else what the other has.
  pub get-union : (one other : FinMap order ℕ) (key : K) → get (union one other) key ≡ option_or (get one key) (get other key)
  unfolding union
  get-union one other key =
      get-from_entries total (entries one ++ entries other) key
      ∙ find-append order (entries one) (entries other) key
      ∙ (λ i. option_or (sym (get-entries one key) i) (sym (get-entries other key) i))

  module _ (same : IsAntisymmetric order) where
    -- What passes a test is kept, and nothing else.
    pub get-kept : (map : FinMap order ℕ) (passes : K → Bool) (key : K) → get (retain_keys map passes) key ≡ cond (passes key) (get map key) None
    get-kept map passes key = get-retain_keys map passes key (λ other tied. ap passes (sym (same key other tied)))

    -- An intersection answers what the one has, at the keys of the other.
    pub get-intersection : (one other : FinMap order ℕ) (key : K) → get (intersection one other) key ≡ cond (contains_key other key) (get one key) None
    unfolding intersection
    get-intersection one other key = get-kept one (contains_key other) key

    -- A difference answers what the one has, at all other keys.
    pub get-difference : (one other : FinMap order ℕ) (key : K) → get (difference one other) key ≡ cond (not (contains_key other key)) (get one key) None
    unfolding difference
    get-difference one other key = get-kept one (λ k. not (contains_key other k)) key

    -- The keys from one to another, and all others.
    pub get-within : (map : FinMap order ℕ) (from to key : K) → get (within map from to) key ≡ cond (is_le (order from key) && is_le (order key to)) (get map key) None
    unfolding within
    get-within map from to key = get-kept map (λ k. is_le (order from k) && is_le (order k to)) key

    pub get-outside : (map : FinMap order ℕ) (from to key : K) → get (outside map from to) key ≡ cond (not (is_le (order from key) && is_le (order key to))) (get map key) None
    unfolding outside
    get-outside map from to key = get-kept map (λ k. not (is_le (order from k) && is_le (order k to))) key

    -- The keys on either side of one.
    pub get-below : (map : FinMap order ℕ) (at key : K) → get (below map at) key ≡ cond (is_lt (order key at)) (get map key) None
    unfolding below
    get-below map at key = get-kept map (λ k. is_lt (order k at)) key

    pub get-from_on : (map : FinMap order ℕ) (at key : K) → get (from_on map at) key ≡ cond (is_ge (order key at)) (get map key) None
    unfolding from_on
    get-from_on map at key = get-kept map (λ k. is_ge (order k at)) key
