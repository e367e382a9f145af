-- What the definitions of two maps, of ranges and of prefixes give where the maps are those of pairs in order: the same on
-- the pairs, which compute.
use Rattle.std.proofs.Common.{◌≡◌, ℕ, suc, ◌-◌, Bool, true, false, cond, not, ◌&&◌, ◌==◌, T, List, [], ◌∷◌, ◌++◌, map, filter, find, reverse, length, Some, is_some}
use Rattle.std.proofs.Common.{refl, sym, ap, ◌∙◌, subst, Ordering, is_lt, is_le}
use Rattle.std.specs.Ordering.{is_ge}
use Rattle.std.specs.List.{range_with_len}
use Rattle.std.specs.Cmp.{IsTotalOrder, nat_cmp_total}
use Rattle.std.specs.FinMap.{FinMap, IsAntisymmetric, entries, contains_key, retain_keys, from_entries, from_sorted, is_sorted, put, nat_cmp-IsAntisymmetric, entries-from_sorted, get-from_sorted}
use Rattle.std.specs.FinMap as maps
use Rattle.std.specs.FinMap.Entries.{where_key, is_sorted-put, is_sorted-where_key}
use Rattle.judy_model.specs.Keys.{word_order, byte_order}
use Rattle.judy_model.specs.TwoMaps.{union, intersection, difference, symmetric_difference}
use Rattle.judy_model.specs.Ranges.{within, outside, below, from_on, words_between, empties_between, count_empty, zeroed, filled, flipped}
use Rattle.judy_model.specs.Prefixes.{begins_with, beginning_with, without_prefix, longest_prefix}
use Rattle.judy_model.proofs.lemmas.maps.SortedMaps.{from_sorted-nil, insert-from_sorted}
use Rattle.judy_model.proofs.lemmas.maps.KeysLemmas.{keys-from_sorted}
use Rattle.judy_model.proofs.lemmas.maps.TableLemmas.{byte_order_total, byte_order_same}
use Rattle.judy_model.proofs.lemmas.maps.MapsOfPairs.{words_computed, bytes_computed}
use Rattle.judy_laws.proofs.lemmas.Parts.{filter_alike, kept-from_sorted}

-- ---- pairs

module _ {K : Type 0} (order : K → K → Ordering) where
  -- Pairs put in one by one, the last first.
  abbrev pub puts : List (K × ℕ) → List (K × ℕ)
  puts [] = []
  puts (pair ∷ pairs) = put order pair.0 pair.1 (puts pairs)

  -- The pairs whose keys are among those of others, and those whose keys aren't.
  abbrev pub shared : List (K × ℕ) → List (K × ℕ) → List (K × ℕ)
  shared one other = where_key order (λ key. is_some (maps.find order key other)) one

  abbrev pub unshared : List (K × ℕ) → List (K × ℕ) → List (K × ℕ)
  unshared one other = where_key order (λ key. not (is_some (maps.find order key other))) one

module _ {K : Type 0} {order : K → K → Ordering} (total : IsTotalOrder order) (same : IsAntisymmetric order) where
  sorted-puts : (pairs : List (K × ℕ)) → T (is_sorted order (puts order pairs))
  sorted-puts [] = tt
  sorted-puts (pair ∷ pairs) = is_sorted-put order total pair.0 pair.1 (puts order pairs) (sorted-puts pairs)

  pub from_entries-puts : (pairs : List (K × ℕ)) → from_entries {R = order} pairs ≡ from_sorted (puts order pairs)
  from_entries-puts [] = sym (from_sorted-nil order)
  from_entries-puts (pair ∷ pairs) =
      ap (λ (m : FinMap order ℕ). maps.insert m pair.0 pair.1) (from_entries-puts pairs)
      ∙ insert-from_sorted order total (puts order pairs) pair.0 pair.1 (sorted-puts pairs)

  where_alike : (p q : K → Bool) (pairs : List (K × ℕ)) → ((key : K) → p key ≡ q key) → where_key order p pairs ≡ where_key order q pairs
  where_alike p q pairs alike = filter_alike (λ e. p e.0) (λ e. q e.0) pairs (λ e. alike e.0)

  module _ (one : List (K × ℕ)) (rising : is_sorted order one ≡ true) where
    up : T (is_sorted order one)
    up = subst T (sym rising) tt

    pub kept-pairs : (p : K → Bool) → retain_keys (from_sorted {R = order} one) p ≡ from_sorted (where_key order p one)
    kept-pairs p = kept-from_sorted total same (from_sorted one) p ∙ ap (λ pairs. from_sorted (where_key order p pairs)) (entries-from_sorted order one up)

    held-pairs : (key : K) → contains_key (from_sorted {R = order} one) key ≡ is_some (maps.find order key one)
    held-pairs key = ap is_some (get-from_sorted order one key up)

    within-pairs : (from to : K) → within (from_sorted {R = order} one) from to ≡ from_sorted (where_key order (λ key. is_le (order from key) && is_le (order key to)) one)
    unfolding within
    within-pairs from to = kept-pairs (λ key. is_le (order from key) && is_le (order key to))

    outside-pairs : (from to : K) → outside (from_sorted {R = order} one) from to ≡ from_sorted (where_key order (λ key. not (is_le (order from key) && is_le (order key to))) one)
    unfolding outside
    outside-pairs from to = kept-pairs (λ key. not (is_le (order from key) && is_le (order key to)))

    below-pairs : (at : K) → below (from_sorted {R = order} one) at ≡ from_sorted (where_key order (λ key. is_lt (order key at)) one)
    unfolding below
    below-pairs at = kept-pairs (λ key. is_lt (order key at))

    from_on-pairs : (at : K) → from_on (from_sorted {R = order} one) at ≡ from_sorted (where_key order (λ key. is_ge (order key at)) one)
    unfolding from_on
    from_on-pairs at = kept-pairs (λ key. is_ge (order key at))

  module _ (one other : List (K × ℕ)) (rising : is_sorted order one ≡ true) (also : is_sorted order other ≡ true) where
    union-pairs : union (from_sorted {R = order} one) (from_sorted other) ≡ from_sorted (puts order (one ++ other))
    unfolding union
    union-pairs =
        (λ t. from_entries {R = order} (entries-from_sorted order one (subst T (sym rising) tt) t ++ entries-from_sorted order other (subst T (sym also) tt) t))
        ∙ from_entries-puts (one ++ other)

    intersection-pairs : intersection (from_sorted {R = order} one) (from_sorted other) ≡ from_sorted (shared order one other)
    unfolding intersection
    intersection-pairs = kept-pairs one rising (contains_key (from_sorted {R = order} other))
        ∙ ap from_sorted (where_alike (contains_key (from_sorted {R = order} other)) (λ key. is_some (maps.find order key other)) one (held-pairs other also))

    difference-pairs : difference (from_sorted {R = order} one) (from_sorted other) ≡ from_sorted (unshared order one other)
    unfolding difference
    difference-pairs = kept-pairs one rising (λ key. not (contains_key (from_sorted {R = order} other) key))
        ∙ ap from_sorted (where_alike (λ key. not (contains_key (from_sorted {R = order} other) key)) (λ key. not (is_some (maps.find order key other))) one
        (λ key. ap not (held-pairs other also key)))

  rises : (pairs : List (K × ℕ)) → T (is_sorted order pairs) → is_sorted order pairs ≡ true
  rises pairs h = elim (is_sorted order pairs) as (λ b. T b → b ≡ true) [ true ↦ λ _. refl | false ↦ λ never. absurd never ] h

  symmetric-pairs : (one other : List (K × ℕ)) → is_sorted order one ≡ true → is_sorted order other ≡ true →
      symmetric_difference (from_sorted {R = order} one) (from_sorted other) ≡ from_sorted (puts order (unshared order one other ++ unshared order other one))
  unfolding symmetric_difference
  symmetric-pairs one other rising also =
      (λ t. union (difference-pairs one other rising also t) (difference-pairs other one also rising t))
      ∙ union-pairs (unshared order one other) (unshared order other one)
      (rises _ (is_sorted-where_key order (λ key. not (is_some (maps.find order key other))) one (subst T (sym rising) tt)))
      (rises _ (is_sorted-where_key order (λ key. not (is_some (maps.find order key one))) other (subst T (sym also) tt)))

-- ---- of words

module _ (one : List (ℕ × ℕ)) (rising : is_sorted word_order one ≡ true) where
  pub words-within : (from to : ℕ) → within (from_sorted {R = word_order} one) from to ≡ from_sorted (where_key word_order (λ key. is_le (word_order from key) && is_le (word_order key to)) one)
  words-within = within-pairs nat_cmp_total nat_cmp-IsAntisymmetric one rising

  pub words-outside : (from to : ℕ) → outside (from_sorted {R = word_order} one) from to ≡
      from_sorted (where_key word_order (λ key. not (is_le (word_order from key) && is_le (word_order key to))) one)
  words-outside = outside-pairs nat_cmp_total nat_cmp-IsAntisymmetric one rising

  pub words-below : (at : ℕ) → below (from_sorted {R = word_order} one) at ≡ from_sorted (where_key word_order (λ key. is_lt (word_order key at)) one)
  words-below = below-pairs nat_cmp_total nat_cmp-IsAntisymmetric one rising

  pub words-from_on : (at : ℕ) → from_on (from_sorted {R = word_order} one) at ≡ from_sorted (where_key word_order (λ key. is_ge (word_order key at)) one)
  words-from_on = from_on-pairs nat_cmp_total nat_cmp-IsAntisymmetric one rising

  empties-pairs : (from to : ℕ) → empties_between (from_sorted {R = word_order} one) from to ≡ filter (λ word. not (is_some (maps.find word_order word one))) (range_with_len from (suc to - from))
  unfolding empties_between words_between
  empties-pairs from to =
      filter_alike (λ word. not (contains_key (from_sorted {R = word_order} one) word)) (λ word. not (is_some (maps.find word_order word one))) (range_with_len from (suc to - from))
      (λ word. ap not (held-pairs nat_cmp_total nat_cmp-IsAntisymmetric one rising word))

  pub words-count_empty : (from to : ℕ) → count_empty (from_sorted {R = word_order} one) from to ≡
      length (filter (λ word. not (is_some (maps.find word_order word one))) (range_with_len from (suc to - from)))
  unfolding count_empty
  words-count_empty from to = ap length (empties-pairs from to)

  pub words-filled : (from to : ℕ) → filled (from_sorted {R = word_order} one) from to ≡ from_sorted (puts word_order (one ++ zeroed (range_with_len from (suc to - from))))
  unfolding filled words_between
  words-filled from to =
      ap (λ pairs. from_entries (pairs ++ zeroed (range_with_len from (suc to - from)))) (entries-from_sorted word_order one (subst T (sym rising) tt))
      ∙ from_entries-puts nat_cmp_total nat_cmp-IsAntisymmetric (one ++ zeroed (range_with_len from (suc to - from)))

  pub words-flipped : (from to : ℕ) → flipped (from_sorted {R = word_order} one) from to ≡
      from_sorted (puts word_order (where_key word_order (λ key. not (is_le (word_order from key) && is_le (word_order key to))) one
      ++ zeroed (filter (λ word. not (is_some (maps.find word_order word one))) (range_with_len from (suc to - from)))))
  unfolding flipped
  words-flipped from to =
      let rest = where_key word_order (λ key. not (is_le (word_order from key) && is_le (word_order key to))) one in
      let words = filter (λ word. not (is_some (maps.find word_order word one))) (range_with_len from (suc to - from)) in
      (λ t. from_entries (entries (words-outside from to t) ++ zeroed (empties-pairs from to t)))
      ∙ ap (λ pairs. from_entries (pairs ++ zeroed words))
      (entries-from_sorted word_order rest (is_sorted-where_key word_order (λ key. not (is_le (word_order from key) && is_le (word_order key to))) one (subst T (sym rising) tt)))
      ∙ from_entries-puts nat_cmp_total nat_cmp-IsAntisymmetric (rest ++ zeroed words)

module _ (one other : List (ℕ × ℕ)) (rising : is_sorted word_order one ≡ true) (also : is_sorted word_order other ≡ true) where
  pub words-union : union (from_sorted {R = word_order} one) (from_sorted other) ≡ from_sorted (puts word_order (one ++ other))
  words-union = union-pairs nat_cmp_total nat_cmp-IsAntisymmetric one other rising also

  pub words-intersection : intersection (from_sorted {R = word_order} one) (from_sorted other) ≡ from_sorted (shared word_order one other)
  words-intersection = intersection-pairs nat_cmp_total nat_cmp-IsAntisymmetric one other rising also

  pub words-difference : difference (from_sorted {R = word_order} one) (from_sorted other) ≡ from_sorted (unshared word_order one other)
  words-difference = difference-pairs nat_cmp_total nat_cmp-IsAntisymmetric one other rising also

  pub words-symmetric : symmetric_difference (from_sorted {R = word_order} one) (from_sorted other) ≡ from_sorted (puts word_order (unshared word_order one other ++ unshared word_order other one))
  words-symmetric = symmetric-pairs nat_cmp_total nat_cmp-IsAntisymmetric one other rising also

pub between-is : (from to : ℕ) → words_between from to ≡ range_with_len from (suc to - from)
unfolding words_between
between-is from to = refl

pub ruleset words_joined = (
  words_computed,
  words-within,
  words-outside,
  words-below,
  words-from_on,
  words-count_empty,
  words-filled,
  words-flipped,
  words-union,
  words-intersection,
  words-difference,
  words-symmetric,
  between-is,
)

-- ---- of byte strings

-- Whether the one begins the other.
abbrev pub begins : List ℕ → List ℕ → Bool
begins [] bytes = true
begins (byte ∷ prefix) [] = false
begins (byte ∷ prefix) (first ∷ rest) = (byte == first) && begins prefix rest

pub begins-is : (prefix bytes : List ℕ) → begins_with prefix bytes ≡ begins prefix bytes
unfolding begins_with
begins-is [] bytes = refl
begins-is (byte ∷ prefix) [] = refl
begins-is (byte ∷ prefix) (first ∷ rest) = ap (λ b. (byte == first) && b) (begins-is prefix rest)

find_alike : (p q : List ℕ → Bool) (xs : List (List ℕ)) → ((x : List ℕ) → p x ≡ q x) → find p xs ≡ find q xs
find_alike p q [] alike = refl
find_alike p q (x ∷ xs) alike = λ t. cond (alike x t) (Some x) (find_alike p q xs alike t)

module _ (one : List (List ℕ × ℕ)) (rising : is_sorted byte_order one ≡ true) where
  pub bytes-within : (from to : List ℕ) → within (from_sorted {R = byte_order} one) from to ≡ from_sorted (where_key byte_order (λ key. is_le (byte_order from key) && is_le (byte_order key to)) one)
  bytes-within = within-pairs byte_order_total byte_order_same one rising

  pub bytes-beginning : (prefix : List ℕ) → beginning_with (from_sorted {R = byte_order} one) prefix ≡ from_sorted (where_key byte_order (begins prefix) one)
  unfolding beginning_with
  bytes-beginning prefix = kept-pairs byte_order_total byte_order_same one rising (begins_with prefix)
      ∙ ap from_sorted (where_alike byte_order_total byte_order_same (begins_with prefix) (begins prefix) one (begins-is prefix))

  pub bytes-without : (prefix : List ℕ) → without_prefix (from_sorted {R = byte_order} one) prefix ≡ from_sorted (where_key byte_order (λ key. not (begins prefix key)) one)
  unfolding without_prefix
  bytes-without prefix = kept-pairs byte_order_total byte_order_same one rising (λ key. not (begins_with prefix key))
      ∙ ap from_sorted (where_alike byte_order_total byte_order_same (λ key. not (begins_with prefix key)) (λ key. not (begins prefix key)) one (λ key. ap not (begins-is prefix key)))

  pub bytes-longest : (bytes : List ℕ) → longest_prefix (from_sorted {R = byte_order} one) bytes ≡ find (λ key. begins key bytes) (reverse (map (λ e. e.0) one))
  unfolding longest_prefix
  bytes-longest bytes =
      ap (λ all. find (λ key. begins_with key bytes) (reverse all)) (keys-from_sorted byte_order one (subst T (sym rising) tt))
      ∙ find_alike (λ key. begins_with key bytes) (λ key. begins key bytes) (reverse (map (λ e. e.0) one)) (λ key. begins-is key bytes)

module _ (one other : List (List ℕ × ℕ)) (rising : is_sorted byte_order one ≡ true) (also : is_sorted byte_order other ≡ true) where
  pub bytes-union : union (from_sorted {R = byte_order} one) (from_sorted other) ≡ from_sorted (puts byte_order (one ++ other))
  bytes-union = union-pairs byte_order_total byte_order_same one other rising also

  pub bytes-intersection : intersection (from_sorted {R = byte_order} one) (from_sorted other) ≡ from_sorted (shared byte_order one other)
  bytes-intersection = intersection-pairs byte_order_total byte_order_same one other rising also

  pub bytes-difference : difference (from_sorted {R = byte_order} one) (from_sorted other) ≡ from_sorted (unshared byte_order one other)
  bytes-difference = difference-pairs byte_order_total byte_order_same one other rising also

  pub bytes-symmetric : symmetric_difference (from_sorted {R = byte_order} one) (from_sorted other) ≡ from_sorted (puts byte_order (unshared byte_order one other ++ unshared byte_order other one))
  bytes-symmetric = symmetric-pairs byte_order_total byte_order_same one other rising also

pub ruleset bytes_joined = (bytes_computed, begins-is, bytes-within, bytes-beginning, bytes-without, bytes-longest, bytes-union, bytes-intersection, bytes-difference, bytes-symmetric)
