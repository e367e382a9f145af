-- The neighbours and the counts of a map by its ranks: by how many keys are below a key, and at or below it.
use Rattle.std.proofs.Common.{◌≡◌, ℕ, suc, ◌+◌, ◌-◌, ◌<◌, ◌≤◌, true, false, cond, not, ◌&&◌, length, slice_get, IsTrue, Some, None, sym, refl, ap, ◌∙◌, arith, Ordering, is_lt, is_le}
use Rattle.std.specs.Cmp.{IsTotalOrder}
use Rattle.std.specs.FinMap.{FinMap, IsAntisymmetric, keys, contains_key, len}
use Rattle.judy_model.specs.Neighbours.{first, next, last, prev}
use Rattle.judy_model.specs.Counts.{keys_between, count, rank, nth, by_count}
use Rattle.judy_model.specs.Counts.{count_up_to}
use Rattle.judy_model.proofs.lemmas.orders.Orders.{ge_is_not_lt, gt_is_not_le, less_is, le_from_not_lt, lt_from_not_le, lt_le_trans, le_lt_trans}
use Rattle.judy_model.proofs.lemmas.maps.Ascending.{place_among, find_agree}
use Rattle.judy_model.proofs.lemmas.queries.Places.{before_place-suc, find_at_count, find_before_count, lt-IsDownward, le-IsDownward, length-filter_split, length-filter_is}
use Rattle.judy_model.proofs.lemmas.queries.Places.{length-filter-le, length-filter-mono, filter_agree_among, below_at_place, up_to_place}
use Rattle.judy_model.proofs.lemmas.maps.KeysLemmas.{keys_ascending, length-keys, among_keys}

module _ {K : Type 0} {order : K → K → Ordering} (total : IsTotalOrder order) (map : FinMap order ℕ) where
  -- ---- neighbours

  -- The first key at or above a key stands at its rank.
  pub first-slice_get : (from : K) → first map from ≡ slice_get (keys map) (rank map from)
  unfolding first rank
  first-slice_get from = find_agree (λ key. ge_is_not_lt (order key from)) (keys map) ∙ find_at_count order (λ key. is_lt (order key from)) (lt-IsDownward total from) (keys map) (keys_ascending map)

  -- The next key stands where as many stand before it as are at or below the key.
  pub next-slice_get : (from : K) → next map from ≡ slice_get (keys map) (count_up_to map from)
  unfolding next count_up_to
  next-slice_get from = find_agree (λ key. gt_is_not_le (order key from)) (keys map) ∙ find_at_count order (λ key. is_le (order key from)) (le-IsDownward total from) (keys map) (keys_ascending map)

  -- The place before a number of keys.
  pub by_count-suc : (n : ℕ) → by_count map (suc n) ≡ slice_get (keys map) n
  unfolding by_count
  by_count-suc n = before_place-suc (keys map) n

  -- Before none there is none.
  pub by_count-zero : by_count map 0 ≡ None
  unfolding by_count
  by_count-zero = refl

  -- The key at a place, counted from 0.
  pub nth-slice_get : (place : ℕ) → nth map place ≡ slice_get (keys map) place
  unfolding nth
  nth-slice_get place = refl

  -- The place n, counted from 1, is the place before n counted from 0.
  pub by_count-nth : (place : ℕ) → by_count map (suc place) ≡ nth map place
  by_count-nth place = by_count-suc place ∙ sym (nth-slice_get place)

  -- The rank of a key is the place before which the keys are below it, and from which on none is.
  pub rank_is : (key : K) (place : ℕ) → place ≤ len map → ((k : ℕ) (x : K) → slice_get (keys map) k ≡ Some x → k < place → is_lt (order x key) ≡ true) →
      ((k : ℕ) (x : K) → slice_get (keys map) k ≡ Some x → place ≤ k → is_le (order key x) ≡ true) → rank map key ≡ place
  unfolding rank
  rank_is key place within before after =
      length-filter_is (λ other. is_lt (order other key)) (keys map) place (let long = length-keys map in omega (arith, long)) before
      (λ k x at later. lt_from_not_le total x key ∙ ap not (after k x at later))

  -- The rank of the key at a place is that place.
  pub rank_at : (place : ℕ) (key : K) → slice_get (keys map) place ≡ Some key → rank map key ≡ place
  unfolding rank
  rank_at place key at = below_at_place total (keys map) (keys_ascending map) place key at

  -- The count up to it is one more.
  pub count_up_to_at : (place : ℕ) (key : K) → slice_get (keys map) place ≡ Some key → count_up_to map key ≡ suc place
  unfolding count_up_to
  count_up_to_at place key at = up_to_place total (keys map) (keys_ascending map) place key at

  -- No rank is above the number of keys.
  pub rank-le : (key : K) → rank map key ≤ len map
  unfolding rank
  rank-le key = let long = length-keys map in let kept = length-filter-le (λ other. is_lt (order other key)) (keys map) in omega (arith, long, kept)

  -- Nor is a count up to a key.
  pub count_up_to-le : (key : K) → count_up_to map key ≤ len map
  unfolding count_up_to
  count_up_to-le key = let long = length-keys map in let kept = length-filter-le (λ other. is_le (order other key)) (keys map) in omega (arith, long, kept)

  -- ---- counts

  split_at : (from to key : K) → is_le (order from to) ≡ true → cond (is_le (order from key) && is_le (order key to)) 1 0 + cond (is_lt (order key from)) 1 0 ≡ cond (is_le (order key to)) 1 0
  split_at from to key rising =
      ap (λ b. cond (b && is_le (order key to)) 1 0 + cond (is_lt (order key from)) 1 0) (le_from_not_lt total from key)
      ∙ elim (is_lt (order key from)) as (λ b. is_lt (order key from) ≡ b → cond (not b && is_le (order key to)) 1 0 + cond b 1 0 ≡ cond (is_le (order key to)) 1 0) [
        | true ↦ λ below. ap (λ b. cond b 1 0) (sym (ap is_le (lt_le_trans total key from to (less_is (order key from) below) rising)))
        | false ↦ λ not_below. let e : cond (is_le (order key to)) 1 0 + 0 ≡ cond (is_le (order key to)) 1 0 = omega arith in e
      ] refl

  -- The count from one key to another and the rank of the first are the count up to the second.
  pub count_ranks : (from to : K) → IsTrue (is_le (order from to)) → count map from to + rank map from ≡ count_up_to map to
  unfolding count keys_between rank count_up_to
  count_ranks from to rising =
      length-filter_split (λ key. is_le (order from key) && is_le (order key to)) (λ key. is_lt (order key from)) (λ key. is_le (order key to)) (λ key. split_at from to key rising) (keys map)

  -- Where the second is below the first, the count is 0.
  pub count_none : (from to : K) → IsTrue (is_lt (order to from)) → count map from to ≡ 0
  unfolding count keys_between
  count_none from to falling =
      length-filter_is (λ key. is_le (order from key) && is_le (order key to)) (keys map) 0 (omega arith) (λ k x at before. let never : ⊥ = omega arith in absurd never) (λ k x at after. outside x)
    where
      outside : (x : K) → (is_le (order from x) && is_le (order x to)) ≡ false
      outside x =
          elim (is_le (order x to)) as (λ b. is_le (order x to) ≡ b → (is_le (order from x) && b) ≡ false) [
            | true ↦ λ low. ap (λ b. b && true) (le_from_not_lt total from x ∙ ap not (ap is_lt (le_lt_trans total x to from low (less_is (order to from) falling))))
            | false ↦ λ high. elim (is_le (order from x)) as (λ b. (b && false) ≡ false) [ true ↦ refl | false ↦ refl ]
          ] refl

  -- The count up to a key is at most the rank of each key above it.
  pub count_up_to-le-rank : (from to : K) → IsTrue (is_lt (order to from)) → count_up_to map to ≤ rank map from
  unfolding count_up_to rank
  count_up_to-le-rank from to falling =
      length-filter-mono (λ other. is_le (order other to)) (λ other. is_lt (order other from)) (λ other low. ap is_lt (le_lt_trans total other to from low (less_is (order to from) falling)))
      (keys map)

  -- So a count is always the count up to the second less the rank of the first, and 0 where that is no number.
  pub count-sub : (from to : K) → count map from to ≡ count_up_to map to - rank map from
  count-sub from to =
      elim (is_le (order from to)) as (λ b. is_le (order from to) ≡ b → count map from to ≡ count_up_to map to - rank map from) [
        | true ↦ λ rising. let ranks = count_ranks from to rising in omega (arith, ranks)
        | false ↦ λ not_rising.
            let falling = lt_from_not_le total to from ∙ ap not not_rising in
            let none = count_none from to falling in
            let within = count_up_to-le-rank from to falling in
            omega (arith, none, within)
      ] refl

  -- From a least key on, the count is the count up to the other.
  pub count_from_least : (least : K) → ((key : K) → IsTrue (is_le (order least key))) → (key : K) → count map least key ≡ count_up_to map key
  unfolding count keys_between count_up_to
  count_from_least least lowest key =
      ap length (filter_agree_among (λ other. is_le (order least other) && is_le (order other key)) (λ other. is_le (order other key)) (keys map)
      (λ other here. ap (λ b. b && is_le (order other key)) (lowest other)))
