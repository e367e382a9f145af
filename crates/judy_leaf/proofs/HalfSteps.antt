-- The rank of a key among ascending words, by what one of them says of it.
use Rattle.std.proofs.Common.{◌≡◌, ◌≢◌, ℕ, zero, suc, ◌+◌, ◌<◌, ◌≤◌, Bool, true, false, cond, nat_lt, lt-ltb, List, [], ◌∷◌, length, get_or, Some, None, ⊎_elim, ap, sym, subst, ◌∙◌, arith}
use Rattle.std.specs.List.{AllByRecursion}
use Rattle.std.specs.List.Sorted.{IsStrictlySortedBy}
use Rattle.std.proofs.lemmas.Bool.{cases_order, false_from_ne_true}
use Rattle.std.proofs.lemmas.List.Sums.{sum_by-cons}
use Rattle.std.proofs.lemmas.Option.{get_or_from_slice_get, slice_get-get_or, slice_get_within}
use Rattle.judy_model.specs.Keys.{word_order}
use Rattle.judy_bits.specs.ByteSets.{has, rank, place}
use Rattle.judy_bits.proofs.SetLemmas.{later_above, not_less, rank_at, slice_get-rank}
use Rattle.judy_leaf.specs.Searches.{IsWindow}
use Rattle.judy_leaf.proofs.Counted.{rank_by_count, place-there}
use Rattle.judy_leaf.proofs.LowPairs.{later_at}

rank-cons : (x key : ℕ) (xs : List ℕ) → rank (x ∷ xs) key ≡ cond (nat_lt x key) 1 0 + rank xs key
rank-cons x key xs = rank_by_count (x ∷ xs) key ∙ sum_by-cons (λ y. cond (nat_lt y key) 1 0) x xs ∙ ap (λ n. cond (nat_lt x key) 1 0 + n) (let e = rank_by_count xs key in omega arith)

one_more : (x key : ℕ) (xs : List ℕ) → x < key → rank (x ∷ xs) key ≡ 1 + rank xs key
one_more x key xs less = rank-cons x key xs ∙ ap (λ b. cond b 1 0 + rank xs key) (lt-ltb x key less)

no_more : (x key : ℕ) (xs : List ℕ) → key ≤ x → rank (x ∷ xs) key ≡ rank xs key
no_more x key xs most = let e = rank-cons x key xs ∙ ap (λ b. cond b 1 0 + rank xs key) (not_less x key most) in omega arith

none_below : (key : ℕ) (xs : List ℕ) → IsStrictlySortedBy word_order xs → (x : ℕ) → key ≤ x → AllByRecursion (λ y. x < y) xs → rank xs key ≡ 0
unfolding IsStrictlySortedBy
none_below key [] ascending x most above = omega arith
none_below key (y ∷ ys) ascending x most above = no_more y key ys (let later = above.0 in omega arith) ∙ none_below key ys ascending.1 x most above.1

-- A word below the key stands before its rank.
pub rank_behind : (xs : List ℕ) (key at : ℕ) → IsStrictlySortedBy word_order xs → at < length xs → get_or xs at 0 < key → at < rank xs key
unfolding IsStrictlySortedBy
rank_behind [] key at ascending inside less = let never : ⊥ = omega arith in absurd never
rank_behind (x ∷ xs) key zero ascending inside less = let more = one_more x key xs less in omega arith
rank_behind (x ∷ xs) key (suc at) ascending inside less =
    let later = later_at x xs at (later_above x xs ascending.0) (omega arith) in
    let behind = rank_behind xs key at ascending.1 (omega arith) less in
    let more = one_more x key xs (omega arith) in
    omega arith

-- Any other stands at it or behind.
pub rank_at_most : (xs : List ℕ) (key at : ℕ) → IsStrictlySortedBy word_order xs → at < length xs → key ≤ get_or xs at 0 → rank xs key ≤ at
unfolding IsStrictlySortedBy
rank_at_most [] key at ascending inside most = let never : ⊥ = omega arith in absurd never
rank_at_most (x ∷ xs) key zero ascending inside most =
    let same = no_more x key xs most in
    let none = none_below key xs ascending.1 x most (later_above x xs ascending.0) in
    omega arith
rank_at_most (x ∷ xs) key (suc at) ascending inside most =
    let before = rank_at_most xs key at ascending.1 (omega arith) most in
    let counted = rank-cons x key xs in
    let small = one_at_most (nat_lt x key) in
    omega arith
  where
    one_at_most : (b : Bool) → cond b 1 0 ≤ 1
    one_at_most true = omega arith
    one_at_most false = omega arith

-- ---- the place of a key that is there

module _ (xs : List ℕ) (key : ℕ) (ascending : IsStrictlySortedBy word_order xs) where
  -- Where a word isn't above the key, the key's place isn't before it.
  pub place_from : (at : ℕ) → at < length xs → get_or xs at 0 ≤ key → at ≤ rank xs key
  place_from at inside most = ⊎_elim
      (λ (same : get_or xs at 0 ≡ key). let here = rank_at xs ascending at key (slice_get-get_or xs at 0 inside ∙ ap Some same) in omega arith)
      (λ apart. ⊎_elim
      (λ (less : get_or xs at 0 < key). let behind = rank_behind xs key at ascending inside less in omega arith)
      (λ (more : key < get_or xs at 0). omega arith)
      apart)
      (cases_order (get_or xs at 0) key)

  -- Where a word is above the key, the key's place is before it.
  pub place_before : (at : ℕ) → at < length xs → key < get_or xs at 0 → has xs key ≡ true → rank xs key < at
  place_before at inside more held =
      let most = rank_at_most xs key at ascending inside (omega arith) in
      let there = get_or_from_slice_get xs (rank xs key) key 0 (slice_get-rank xs ascending key held) in
      ⊎_elim
      (λ (same : rank xs key ≡ at). let e : get_or xs at 0 ≡ key = subst (λ n. get_or xs n 0 ≡ key) same there in omega arith)
      (λ apart. ⊎_elim
      (λ (less : rank xs key < at). less)
      (λ (later : at < rank xs key). omega arith)
      apart)
      (cases_order (rank xs key) at)

  -- A key that is there stands at one of all places.
  pub all_places : IsWindow xs key 0 (length xs)
  all_places = (omega arith, λ held. let within = slice_get_within xs (rank xs key) key (slice_get-rank xs ascending key held) in (omega arith, omega arith))

  pub place_is : (at : ℕ) → IsWindow xs key at 1 → get_or xs at 0 ≡ key → Some at ≡ place xs key
  place_is at window same =
      let within = window.0 in
      place-there xs ascending key at (sym (rank_at xs ascending at key (slice_get-get_or xs at 0 (omega arith) ∙ ap Some same))) (omega arith) same

  pub none_placed : (has xs key ≡ true → ⊥) → None ≡ place xs key
  none_placed absent = sym (ap (λ b. cond b (Some (rank xs key)) None) (false_from_ne_true (has xs key) absent))

  pub place_none : (at : ℕ) → IsWindow xs key at 1 → get_or xs at 0 ≢ key → None ≡ place xs key
  place_none at window apart = none_placed (λ held.
      let within = window.1 held in
      let same : rank xs key ≡ at = omega arith in
      apart (subst (λ n. get_or xs n 0 ≡ key) same (get_or_from_slice_get xs (rank xs key) key 0 (slice_get-rank xs ascending key held))))
