-- The keys that a count counts, and the key that a count gives back.
use Rattle.std.proofs.Common.{◌≡◌, ℕ, zero, suc, ◌<◌, ◌≤◌, ◌&&◌, ◌⊎◌, ◌↔◌, inl, inr, ⊎_elim, List, [], ◌∷◌, length, filter, Contains, IsTrue, Some, None, sym, refl, ap, ◌∙◌, arith}
use Rattle.std.proofs.Common.{Ordering, is_le, le-leb}
use Rattle.std.specs.Cmp.{IsTotalOrder}
use Rattle.std.specs.List.Sorted.{IsStrictlySortedBy}
use Rattle.std.specs.FinMap.{FinMap, IsAntisymmetric, keys, contains_key, len}
use Rattle.std.proofs.lemmas.Bool.{and_parts, and_from}
use Rattle.std.proofs.lemmas.Option.{slice_get_past, slice_get_cases, none-some}
use Rattle.judy_model.specs.Keys.{word_order, byte_order}
use Rattle.judy_model.specs.Counts.{keys_between, count, by_count}
use Rattle.judy_model.specs.Counts.{count_up_to}
use Rattle.judy_model.proofs.lemmas.orders.WordOrder.{is_le_word}
use Rattle.judy_model.proofs.lemmas.maps.Ascending.{place_among, Among-slice_get, Contains-from_among, among_from_Contains, Among-filter, among_from_filter, ascending-filter}
use Rattle.judy_model.proofs.lemmas.maps.KeysLemmas.{keys_ascending, length-keys, among_keys, contains_key-from_among}
use Rattle.judy_model.proofs.lemmas.queries.RankLemmas.{by_count-zero, by_count-suc, count_up_to_at, count_from_least}

-- ---- the keys between two

module _ {K : Type 0} {order : K → K → Ordering} where
  -- The keys between two ascend, so that each stands once.
  pub keys_between_ascending : (map : FinMap order ℕ) (from to : K) → IsStrictlySortedBy order (keys_between map from to)
  unfolding keys_between
  keys_between_ascending map from to = ascending-filter order (λ key. is_le (order from key) && is_le (order key to)) (keys map) (keys_ascending map)

  -- A count is how many there are.
  pub count-keys_between : (map : FinMap order ℕ) (from to : K) → count map from to ≡ length (keys_between map from to)
  unfolding count
  count-keys_between map from to = refl

  module _ (total : IsTotalOrder order) (same : IsAntisymmetric order) where
    -- They are the keys of the map at or above the one and at or below the other.
    pub Contains-keys_between : (map : FinMap order ℕ) (from to key : K) → Contains (keys_between map from to) key ↔
        (IsTrue (contains_key map key) × IsTrue (is_le (order from key)) × IsTrue (is_le (order key to)))
    unfolding keys_between
    Contains-keys_between map from to key =
        let between = λ (other : K). is_le (order from other) && is_le (order other to) in (
          λ held.
              let parts = among_from_filter between (keys map) key (among_from_Contains (filter between (keys map)) key held) in
              let sides = and_parts (is_le (order from key)) (is_le (order key to)) parts.1 in
              (contains_key-from_among total same map key parts.0, sides.0, sides.1),
          λ facts. Contains-from_among (filter between (keys map)) key (Among-filter between (keys map) key (among_keys total same map key facts.0)
              (and_from (is_le (order from key)) (is_le (order key to)) facts.1 facts.2)),
        )

-- ---- the key that a count gives back

module _ {K : Type 0} {order : K → K → Ordering} (total : IsTotalOrder order) (same : IsAntisymmetric order) (map : FinMap order ℕ) where
  -- The n-th key is a key of the map, and n keys stand up to it.
  pub by_count_found : (n : ℕ) (key : K) → by_count map n ≡ Some key → IsTrue (contains_key map key) × (count_up_to map key ≡ n)
  by_count_found zero key is = absurd (none-some key (sym by_count-zero' ∙ is))
    where
      by_count-zero' : by_count map 0 ≡ None
      by_count-zero' = by_count-zero total map
  by_count_found (suc n) key is =
      let at = sym (by_count-suc total map n) ∙ is in
      (contains_key-from_among total same map key (Among-slice_get (keys map) n key at), count_up_to_at total map n key at)

  -- A key of the map is the one that its count gives.
  pub by_count-count_up_to : (key : K) → IsTrue (contains_key map key) → by_count map (count_up_to map key) ≡ Some key
  by_count-count_up_to key held =
      let at = place_among (keys map) key (among_keys total same map key held) in
      ap (by_count map) (count_up_to_at total map at.0 key at.1) ∙ by_count-suc total map at.0 ∙ at.1

  -- There is no n-th key just for 0, and for more than there are keys.
  pub by_count_none : (n : ℕ) → (by_count map n ≡ None) ↔ ((n ≡ 0) ⊎ (len map < n))
  by_count_none n = (none_there n, λ past. ⊎_elim (λ e. ap (by_count map) e ∙ by_count-zero total map) (λ above. beyond n above) past)
    where
      none_there : (n : ℕ) → by_count map n ≡ None → (n ≡ 0) ⊎ (len map < n)
      none_there zero is = inl refl
      none_there (suc n) is = inr (⊎_elim
          (λ some. absurd (none-some some.0 (sym is ∙ by_count-suc total map n ∙ some.2)))
          (λ past. let long = length-keys map in let reached : length (keys map) ≤ n = past.0 in omega (arith, long))
          (slice_get_cases (keys map) n).1)

      beyond : (n : ℕ) → len map < n → by_count map n ≡ None
      beyond zero above = by_count-zero total map
      beyond (suc n) above = let long = length-keys map in by_count-suc total map n ∙ slice_get_past (keys map) n (omega (arith, long))

  -- The same by counts from a least key on.
  module _ (least : K) (lowest : (key : K) → IsTrue (is_le (order least key))) where
    -- The n-th key is a key of the map, and n keys stand from the least up to it.
    pub count-by_count : (n : ℕ) (key : K) → by_count map n ≡ Some key → IsTrue (contains_key map key) × (count map least key ≡ n)
    count-by_count n key is = let found = by_count_found n key is in (found.0, count_from_least total map least lowest key ∙ found.1)

    -- A key of the map is the one that its count from the least gives.
    pub by_count-count : (key : K) → IsTrue (contains_key map key) → by_count map (count map least key) ≡ Some key
    by_count-count key held = ap (by_count map) (count_from_least total map least lowest key) ∙ by_count-count_up_to key held

-- The least word is 0.
pub zero_is_least : (word : ℕ) → IsTrue (is_le (word_order 0 word))
zero_is_least word = is_le_word 0 word ∙ le-leb 0 word (omega arith)

-- The least byte string is the empty one.
pub empty_string_is_least : (bytes : List ℕ) → IsTrue (is_le (byte_order [] bytes))
empty_string_is_least [] = refl
empty_string_is_least (byte ∷ bytes) = refl
