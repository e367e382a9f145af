-- The nearest among ascending keys and pairs, by rank.
use Rattle.std.proofs.Common.{◌≡◌, ◌≢◌, ℕ, zero, suc, ◌+◌, ◌-◌, ◌<◌, ◌≤◌, ⊎_elim, Bool, true, false, cond, nat_lt, nat_le, List, [], ◌∷◌, length, filter, get_or, slice_get, Some}
use Rattle.std.proofs.Common.{None, refl, ap, sym, ◌∙◌, subst, arith, true≢false, is_lt, is_le, Less, Ordering, ltb-true, leb-true, lt-ltb, le-leb}
use Rattle.std.specs.List.{AllByRecursion}
use Rattle.std.specs.List.Sorted.{IsStrictlySortedBy}
use Rattle.std.specs.Cmp.{nat_cmp_total}
use Rattle.std.proofs.lemmas.Bool.{false_from_ne_true, cases_order}
use Rattle.std.proofs.lemmas.Option.{none-some, slice_get-get_or, slice_get_cases, slice_get_within, slice_get_past, same_Some}
use Rattle.judy_model.specs.Keys.{word_order}
use Rattle.judy_model.proofs.lemmas.orders.Orders.{ge_is_not_lt}
use Rattle.judy_model.proofs.lemmas.orders.WordOrder.{is_lt_word, is_le_word}
use Rattle.judy_model.proofs.lemmas.maps.Ascending.{Among, find_agree}
use Rattle.judy_model.proofs.lemmas.queries.Places.{length-filter-le, before_place, before_place-suc, find_at_count, find_before_count, lt-IsDownward, le-IsDownward, filter_agree_among, up_to_place}
use Rattle.judy_bits.specs.ByteSets as set
use Rattle.judy_bits.proofs.SetLemmas.{has_at, has-among, slice_get-rank}
use Rattle.judy_leaf.specs.KeyLists.{keys_of, values_of}
use Rattle.judy_leaf.specs.Nearby.{pair_from, pair_up_to, IsKeyAt, IsNextAt, IsPreviousAt}
use Rattle.judy_leaf.proofs.LeafLists.{length-keys_of, Stands}

-- ---- as many up to a number as below the next one

same_test : (x number : ℕ) → is_le (word_order x number) ≡ is_lt (word_order x (number + 1))
same_test x number = is_le_word x number ∙ both x number ∙ sym (is_lt_word x (number + 1))
  where
    both : (x number : ℕ) → nat_le x number ≡ nat_lt x (number + 1)
    both x number = ⊎_elim
        (λ (same : x ≡ number). le-leb x number (omega arith) ∙ sym (lt-ltb x (number + 1) (omega arith)))
        (λ apart. ⊎_elim
        (λ less. le-leb x number (omega arith) ∙ sym (lt-ltb x (number + 1) (omega arith)))
        (λ more. false_from_ne_true (nat_le x number) (λ e. let up = leb-true x number e in let never : ⊥ = omega arith in absurd never)
        ∙ sym (false_from_ne_true (nat_lt x (number + 1)) (λ e. let up = ltb-true x (number + 1) e in let never : ⊥ = omega arith in absurd never)))
        apart)
        (cases_order x number)

pub up_to-rank : (keys : List ℕ) (number : ℕ) → set.count_up_to keys number ≡ set.rank keys (number + 1)
up_to-rank keys number = λ t. length (filter (λ x. same_test x number t) keys)

module _ (keys : List ℕ) (ascending : IsStrictlySortedBy word_order keys) (number : ℕ) where
  -- One more than its rank where the number is a key.
  pub up_to-member : set.has keys number ≡ true → set.count_up_to keys number ≡ set.rank keys number + 1
  up_to-member held =
      up_to_place nat_cmp_total keys ascending (set.rank keys number) number (slice_get-rank keys ascending number held) ∙
      (let e : suc (set.rank keys number) ≡ set.rank keys number + 1 = omega arith in e)

  pub up_to-other : set.has keys number ≡ false → set.count_up_to keys number ≡ set.rank keys number
  up_to-other absent = ap length (filter_agree_among (λ x. is_le (word_order x number)) (λ x. is_lt (word_order x number)) keys (λ x here.
      let apart : x ≢ number = λ same. true≢false (sym (has-among keys number (subst (Among keys) same here)) ∙ absent) in
      is_le_word x number ∙ ⊎_elim
      (λ (same : x ≡ number). absurd (apart same))
      (λ order. ⊎_elim
      (λ less. le-leb x number (omega arith) ∙ sym (lt-ltb x number less))
      (λ more. false_from_ne_true (nat_le x number) (λ e. let up = leb-true x number e in let never : ⊥ = omega arith in absurd never)
      ∙ sym (false_from_ne_true (nat_lt x number) (λ e. let up = ltb-true x number e in let never : ⊥ = omega arith in absurd never)))
      order)
      (cases_order x number) ∙ sym (is_lt_word x number)))

  -- What stands at the rank is a key or not.
  pub held_at : (at : ℕ) → at ≡ set.rank keys number → at < length keys → get_or keys at 0 ≡ number → set.has keys number ≡ true
  held_at at ranked inside same = has_at keys ascending at number (slice_get-get_or keys at 0 inside ∙ ap Some same)

  pub absent_at : (at : ℕ) → at ≡ set.rank keys number → ((at < length keys) → get_or keys at 0 ≢ number) → set.has keys number ≡ false
  absent_at at ranked apart = false_from_ne_true (set.has keys number) (λ held.
      let there : slice_get keys at ≡ Some number = ap (slice_get keys) ranked ∙ slice_get-rank keys ascending number held in
      let inside = slice_get_within keys at number there in
      apart inside (same_Some (get_or keys at 0) number (sym (slice_get-get_or keys at 0 inside) ∙ there)))

-- ---- pairs

by_key : ℕ × ℕ → ℕ × ℕ → Ordering
by_key pair other = word_order pair.0 other.0

pairs_ascend : (pairs : List (ℕ × ℕ)) → IsStrictlySortedBy word_order (keys_of pairs) → IsStrictlySortedBy by_key pairs
unfolding IsStrictlySortedBy by_key
pairs_ascend [] ascending = tt
pairs_ascend (pair ∷ pairs) ascending = (each pair.0 pairs ascending.0, pairs_ascend pairs ascending.1)
  where
    each : (key : ℕ) (pairs : List (ℕ × ℕ)) → AllByRecursion (λ y. word_order key y ≡ Less) (keys_of pairs) → AllByRecursion (λ (pair : ℕ × ℕ). word_order key pair.0 ≡ Less) pairs
    each key [] all = tt
    each key (pair ∷ pairs) all = (all.0, each key pairs all.1)

kept : (q : ℕ → Bool) (pairs : List (ℕ × ℕ)) → length (filter (λ (pair : ℕ × ℕ). q pair.0) pairs) ≡ length (filter q (keys_of pairs))
kept q [] = refl
kept q (pair ∷ pairs) = elim (q pair.0) as (λ b. length (cond b (pair ∷ filter (λ (p : ℕ × ℕ). q p.0) pairs) (filter (λ (p : ℕ × ℕ). q p.0) pairs)) ≡
    length (cond b (pair.0 ∷ filter q (keys_of pairs)) (filter q (keys_of pairs)))) [
      | true ↦ ap suc (kept q pairs)
      | false ↦ kept q pairs
    ]

pair_at : (pairs : List (ℕ × ℕ)) (at : ℕ) → at < length pairs → slice_get pairs at ≡ Some (get_or (keys_of pairs) at 0, get_or (values_of pairs) at 0)
pair_at [] at inside = let never : ⊥ = omega arith in absurd never
pair_at (pair ∷ pairs) zero inside = refl
pair_at (pair ∷ pairs) (suc at) inside = pair_at pairs at (omega arith)

module _ (pairs : List (ℕ × ℕ)) (ascending : IsStrictlySortedBy word_order (keys_of pairs)) (number : ℕ) where
  pub from-rank : pair_from pairs number ≡ slice_get pairs (set.rank (keys_of pairs) number)
  unfolding by_key
  from-rank =
      find_agree (λ pair. ge_is_not_lt (word_order pair.0 number)) pairs
      ∙ find_at_count by_key (λ pair. is_lt (word_order pair.0 number)) (λ x y less passes. lt-IsDownward nat_cmp_total number x.0 y.0 less passes) pairs (pairs_ascend pairs ascending)
      ∙ ap (slice_get pairs) (kept (λ key. is_lt (word_order key number)) pairs)

  pub up_to-count : pair_up_to pairs number ≡ before_place pairs (set.count_up_to (keys_of pairs) number)
  unfolding by_key
  up_to-count =
      find_before_count by_key (λ pair. is_le (word_order pair.0 number)) (λ x y less passes. le-IsDownward nat_cmp_total number x.0 y.0 less passes) pairs (pairs_ascend pairs ascending)
      ∙ ap (before_place pairs) (kept (λ key. is_le (word_order key number)) pairs)

  -- The first pair that isn't below, by its place.
  pub next_found : (at key value : ℕ) → at ≡ set.rank (keys_of pairs) number → at < length pairs → key ≡ get_or (keys_of pairs) at 0 → value ≡ get_or (values_of pairs) at 0 →
      Some (key, value) ≡ pair_from pairs number
  next_found at key value ranked inside is_key is_value = (λ t. Some (is_key t, is_value t)) ∙ sym (pair_at pairs at inside) ∙ ap (slice_get pairs) ranked ∙ sym from-rank

  pub next_none : set.rank (keys_of pairs) number ≡ length pairs → None ≡ pair_from pairs number
  next_none all = sym (from-rank ∙ ap (slice_get pairs) all ∙ slice_get_past pairs (length pairs) (omega arith))

  pub previous_found : (at key value : ℕ) → at + 1 ≡ set.count_up_to (keys_of pairs) number → at < length pairs → key ≡ get_or (keys_of pairs) at 0 →
      value ≡ get_or (values_of pairs) at 0 → Some (key, value) ≡ pair_up_to pairs number
  previous_found at key value counted inside is_key is_value =
      (λ t. Some (is_key t, is_value t)) ∙ sym (pair_at pairs at inside) ∙ sym (before_place-suc pairs at)
      ∙ ap (before_place pairs) ((let e : suc at ≡ at + 1 = omega arith in e) ∙ counted) ∙ sym up_to-count

  pub previous_none : set.count_up_to (keys_of pairs) number ≡ 0 → None ≡ pair_up_to pairs number
  previous_none none = sym (up_to-count ∙ ap (before_place pairs) none)

  -- The nearest key, as a set of bytes finds it.
  next_place : set.next_from (keys_of pairs) number ≡ slice_get (keys_of pairs) (set.rank (keys_of pairs) number)
  next_place =
      find_agree (λ key. ge_is_not_lt (word_order key number)) (keys_of pairs)
      ∙ find_at_count word_order (λ key. is_lt (word_order key number)) (λ x y less passes. lt-IsDownward nat_cmp_total number x y less passes) (keys_of pairs) ascending

  pub next_inside : (key : ℕ) → Some key ≡ set.next_from (keys_of pairs) number → set.rank (keys_of pairs) number < length pairs
  next_inside key is =
      let there = slice_get_within (keys_of pairs) (set.rank (keys_of pairs) number) key (sym (is ∙ next_place)) in
      subst (λ n. set.rank (keys_of pairs) number < n) (length-keys_of pairs) there

  pub next_member : (key value : ℕ) → Some key ≡ set.next_from (keys_of pairs) number → value ≡ get_or (values_of pairs) (set.rank (keys_of pairs) number) 0 →
      Some (key, value) ≡ pair_from pairs number
  next_member key value is is_value =
      let at = set.rank (keys_of pairs) number in
      let there = slice_get_within (keys_of pairs) at key (sym (is ∙ next_place)) in
      next_found at key value refl (next_inside key is) (same_Some key (get_or (keys_of pairs) at 0) (is ∙ next_place ∙ slice_get-get_or (keys_of pairs) at 0 there)) is_value

  pub no_next_member : None ≡ set.next_from (keys_of pairs) number → None ≡ pair_from pairs number
  no_next_member none = sym (from-rank ∙ slice_get_past pairs at (subst (λ n. n ≤ at) (length-keys_of pairs) past))
    where
      at : ℕ
      at = set.rank (keys_of pairs) number

      past : length (keys_of pairs) ≤ at
      past = ⊎_elim (λ found. absurd (none-some found.0 (none ∙ next_place ∙ found.2))) (λ past. past.0) (slice_get_cases (keys_of pairs) at).1

  previous_place : set.prev_from (keys_of pairs) number ≡ before_place (keys_of pairs) (set.count_up_to (keys_of pairs) number)
  previous_place = find_before_count word_order (λ key. is_le (word_order key number)) (λ x y less passes. le-IsDownward nat_cmp_total number x y less passes) (keys_of pairs) ascending

  -- The key that it finds stands just before as many as are up to the number.
  before_there : (at key : ℕ) → at + 1 ≡ set.count_up_to (keys_of pairs) number → Some key ≡ set.prev_from (keys_of pairs) number → slice_get (keys_of pairs) at ≡ Some key
  before_there at key counted is =
      let next : suc at ≡ at + 1 = omega arith in
      sym (before_place-suc (keys_of pairs) at) ∙ ap (before_place (keys_of pairs)) (next ∙ counted) ∙ sym (is ∙ previous_place)

  pub previous_some : (key count : ℕ) → count ≡ set.count_up_to (keys_of pairs) number → Some key ≡ set.prev_from (keys_of pairs) number → 1 ≤ count
  previous_some key zero counted is = absurd (none-some key (ap (before_place (keys_of pairs)) counted ∙ sym (is ∙ previous_place)))
  previous_some key (suc count) counted is = omega arith

  pub previous_member : (at key value : ℕ) → at + 1 ≡ set.count_up_to (keys_of pairs) number → Some key ≡ set.prev_from (keys_of pairs) number →
      value ≡ get_or (values_of pairs) at 0 → Some (key, value) ≡ pair_up_to pairs number
  previous_member at key value counted is is_value =
      let there = before_there at key counted is in
      let inside = slice_get_within (keys_of pairs) at key there in
      previous_found at key value counted (subst (λ n. at < n) (length-keys_of pairs) inside) (same_Some key (get_or (keys_of pairs) at 0)
      (sym there ∙ slice_get-get_or (keys_of pairs) at 0 inside)) is_value

  pub no_previous_member : None ≡ set.prev_from (keys_of pairs) number → None ≡ pair_up_to pairs number
  no_previous_member none = ⊎_elim
      (λ (no : set.count_up_to (keys_of pairs) number ≡ 0). previous_none no)
      (λ apart. ⊎_elim
      (λ less. let never : ⊥ = omega arith in absurd never)
      (λ more.
      let at = set.count_up_to (keys_of pairs) number - 1 in
      let counted : suc at ≡ set.count_up_to (keys_of pairs) number = omega arith in
      let few = length-filter-le (λ key. is_le (word_order key number)) (keys_of pairs) in
      let there = slice_get-get_or (keys_of pairs) at 0 (omega arith) in
      absurd (none-some (get_or (keys_of pairs) at 0) (none ∙ previous_place ∙ ap (before_place (keys_of pairs)) (sym counted) ∙ before_place-suc (keys_of pairs) at ∙ there)))
      apart)
      (cases_order (set.count_up_to (keys_of pairs) number) 0)

-- ---- the same from the keys as they stand

module _ {pairs : List (ℕ × ℕ)} {keys : List ℕ} (stand : Stands pairs keys) (number : ℕ) where
  many : length keys ≡ length pairs
  many = ap length stand.same ∙ length-keys_of pairs

  pub place_inside : (found : ℕ × ℕ) → IsKeyAt keys found → found.0 < length pairs
  place_inside found there = subst (λ n. found.0 < n) many there.inside

  pub next_is : (found : ℕ × ℕ) (value : ℕ) → IsNextAt keys number found → value ≡ get_or (values_of pairs) found.0 0 → Some (found.1, value) ≡ pair_from pairs number
  next_is found value is is_value =
      next_found pairs stand.ascending number found.0 found.1 value (is.place ∙ ap (λ ks. set.rank ks number) stand.same) (place_inside found is.key)
      (is.key.there ∙ ap (λ ks. get_or ks found.0 0) stand.same) is_value

  pub next_is_none : (count : ℕ) → set.rank keys number ≡ count → count ≡ length pairs → None ≡ pair_from pairs number
  next_is_none count all is_all = next_none pairs stand.ascending number (ap (λ ks. set.rank ks number) (sym stand.same) ∙ all ∙ is_all)

  pub previous_is : (found : ℕ × ℕ) (value : ℕ) → IsPreviousAt keys number found → value ≡ get_or (values_of pairs) found.0 0 → Some (found.1, value) ≡ pair_up_to pairs number
  previous_is found value is is_value =
      previous_found pairs stand.ascending number found.0 found.1 value (is.place ∙ ap (λ ks. set.count_up_to ks number) stand.same) (place_inside found is.key)
      (is.key.there ∙ ap (λ ks. get_or ks found.0 0) stand.same) is_value

  pub previous_is_none : set.count_up_to keys number ≡ 0 → None ≡ pair_up_to pairs number
  previous_is_none none = previous_none pairs stand.ascending number (ap (λ ks. set.count_up_to ks number) (sym stand.same) ∙ none)
