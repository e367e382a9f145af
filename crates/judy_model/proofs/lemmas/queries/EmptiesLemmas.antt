-- The words that are no keys of a map, and the nearest of them.
use Rattle.std.proofs.Common.{◌≡◌, ℕ, zero, suc, ◌+◌, ◌<◌, ◌≤◌, ◌^◌, Bool, true, false, not, ◌&&◌, inl, inr, ⊎_elim, nat_lt, IsFalse, Option, Some, None, sym, ◌∙◌, arith, Less}
use Rattle.std.proofs.Common.{nat_cmp, is_lt, is_le, is_gt, is_ge, ltb-true, lt-ltb, leb-true, le-leb}
use Rattle.std.specs.List.{range_with_len}
use Rattle.std.specs.List.Sorted.{IsStrictlySortedBy}
use Rattle.std.specs.Cmp.{nat_cmp_total}
use Rattle.std.specs.FinMap.{FinMap, contains_key, nat_cmp-IsAntisymmetric}
use Rattle.std.proofs.lemmas.Bool.{and_parts, and_from, cases_lt, cases_eq, not-true, not_from_false, false_from_ne_true}
use Rattle.judy_model.specs.Keys.{word_order}
use Rattle.judy_model.specs.Empties.{numbers_below, empties, first_empty, next_empty, last_empty, prev_empty}
use Rattle.judy_model.specs.Nearest.{IsLeast, IsGreatest, IsFirst, IsNext, IsLast, IsPrev, is_empty_word}
use Rattle.judy_model.proofs.lemmas.orders.Orders.{not_both}
use Rattle.judy_model.proofs.lemmas.orders.WordOrder.{is_lt_word, is_le_word, is_gt_word, is_ge_word, less_word}
use Rattle.judy_model.proofs.lemmas.maps.Ascending.{Among, all_from_among, Among-filter, among_from_filter, LeastAmong, GreatestAmong, find_least, find_greatest, ascending-filter}
use Rattle.judy_model.proofs.lemmas.queries.NearestLemmas.{least_is_one, greatest_is_one, IsLeast-from_among}

-- ---- the numbers below a bound

in_range : (start len word : ℕ) → Among (range_with_len start len) word → (start ≤ word) × (word < start + len)
in_range start zero word here = absurd here
in_range start (suc len) word here = ⊎_elim
    (λ e. (omega arith, omega arith))
    (λ later. let rest = in_range (start + 1) len word later in (omega (arith, rest.0), omega (arith, rest.1)))
    here

Among-range : (start len word : ℕ) → start ≤ word → word < start + len → Among (range_with_len start len) word
Among-range start zero word low high = let never : ⊥ = omega arith in absurd never
Among-range start (suc len) word low high = ⊎_elim (λ e. inl e) (λ other. inr (Among-range (start + 1) len word (omega arith) (omega arith))) (cases_eq word start)

ascending-range : (start len : ℕ) → IsStrictlySortedBy nat_cmp (range_with_len start len)
unfolding IsStrictlySortedBy
ascending-range start zero = tt
ascending-range start (suc len) = (
  all_from_among (λ other. nat_cmp start other ≡ Less) (range_with_len (start + 1) len) (λ word here. let rest = in_range (start + 1) len word here in less_word start word (omega (arith, rest.0))),
  ascending-range (start + 1) len,
)

-- A number stands among those below a bound just where it is below it.
pub below_from_among : (bound word : ℕ) → Among (numbers_below bound) word → word < bound
unfolding numbers_below
below_from_among bound word here = omega (arith, (in_range 0 bound word here).1)

-- The way back.
pub Among-numbers_below : (bound word : ℕ) → word < bound → Among (numbers_below bound) word
unfolding numbers_below
Among-numbers_below bound word below = Among-range 0 bound word (omega arith) (omega arith)

-- They ascend.
pub ascending-numbers_below : (bound : ℕ) → IsStrictlySortedBy nat_cmp (numbers_below bound)
unfolding numbers_below
ascending-numbers_below bound = ascending-range 0 bound

-- ---- the empty words of a map

module _ (map : FinMap word_order ℕ) where
  -- The empty words ascend.
  pub ascending-empties : IsStrictlySortedBy word_order (empties map)
  unfolding empties
  ascending-empties = ascending-filter word_order (λ word. not (contains_key map word)) (numbers_below (2 ^ 64)) (ascending-numbers_below (2 ^ 64))

  -- They are words, and no keys of the map.
  pub empty_from_among : (word : ℕ) → Among (empties map) word → is_empty_word map word ≡ true
  unfolding empties
  empty_from_among word here =
      let parts = among_from_filter (λ word. not (contains_key map word)) (numbers_below (2 ^ 64)) word here in
      and_from (nat_lt word (2 ^ 64)) (not (contains_key map word)) (lt-ltb word (2 ^ 64) (below_from_among (2 ^ 64) word parts.0)) parts.1

  -- And they are all of those.
  pub Among-empties : (word : ℕ) → is_empty_word map word ≡ true → Among (empties map) word
  unfolding empties
  Among-empties word empty =
      let parts = and_parts (nat_lt word (2 ^ 64)) (not (contains_key map word)) empty in
      Among-filter (λ word. not (contains_key map word)) (numbers_below (2 ^ 64)) word (Among-numbers_below (2 ^ 64) word (ltb-true word (2 ^ 64) parts.0)) parts.1

-- ---- the nearest empty word

module _ (map : FinMap word_order ℕ) (from : ℕ) where
  least_empty : (side : ℕ → Bool) (answer : Option ℕ) → LeastAmong word_order side (empties map) answer → IsLeast word_order (λ word. is_empty_word map word && side word) answer
  least_empty side answer h = IsLeast-from_among word_order (is_empty_word map) side (empties map) (empty_from_among map) (Among-empties map) answer h

  greatest_empty : (side : ℕ → Bool) (answer : Option ℕ) → GreatestAmong word_order side (empties map) answer → IsGreatest word_order (λ word. is_empty_word map word && side word) answer
  greatest_empty side answer h = IsLeast-from_among (λ left right. word_order right left) (is_empty_word map) side (empties map) (empty_from_among map) (Among-empties map) answer h

  -- `first_empty` answers the least empty word at or above the given number.
  pub first_empty-IsFirst : IsFirst word_order (is_empty_word map) from (first_empty map from)
  unfolding first_empty
  first_empty-IsFirst = least_empty (λ word. is_ge (word_order word from)) _ (find_least nat_cmp_total (λ word. is_ge (word_order word from)) (empties map) (ascending-empties map))

  -- `next_empty` answers the least empty word above it.
  pub next_empty-IsNext : IsNext word_order (is_empty_word map) from (next_empty map from)
  unfolding next_empty
  next_empty-IsNext = least_empty (λ word. is_gt (word_order word from)) _ (find_least nat_cmp_total (λ word. is_gt (word_order word from)) (empties map) (ascending-empties map))

  -- `last_empty` answers the greatest empty word at or below it.
  pub last_empty-IsLast : IsLast word_order (is_empty_word map) from (last_empty map from)
  unfolding last_empty
  last_empty-IsLast = greatest_empty (λ word. is_le (word_order word from)) _ (find_greatest nat_cmp_total (λ word. is_le (word_order word from)) (empties map) (ascending-empties map))

  -- `prev_empty` answers the greatest empty word below it.
  pub prev_empty-IsPrev : IsPrev word_order (is_empty_word map) from (prev_empty map from)
  unfolding prev_empty
  prev_empty-IsPrev = greatest_empty (λ word. is_lt (word_order word from)) _ (find_greatest nat_cmp_total (λ word. is_lt (word_order word from)) (empties map) (ascending-empties map))

  -- What is the least empty word at or above the given number is what `first_empty` answers.
  pub first_empty_is : (answer : Option ℕ) → IsFirst word_order (is_empty_word map) from answer → first_empty map from ≡ answer
  first_empty_is answer h = least_is_one nat_cmp_total nat_cmp-IsAntisymmetric _ (first_empty map from) answer first_empty-IsFirst h

  -- What is the least empty word above it is what `next_empty` answers.
  pub next_empty_is : (answer : Option ℕ) → IsNext word_order (is_empty_word map) from answer → next_empty map from ≡ answer
  next_empty_is answer h = least_is_one nat_cmp_total nat_cmp-IsAntisymmetric _ (next_empty map from) answer next_empty-IsNext h

  -- What is the greatest empty word at or below it is what `last_empty` answers.
  pub last_empty_is : (answer : Option ℕ) → IsLast word_order (is_empty_word map) from answer → last_empty map from ≡ answer
  last_empty_is answer h = greatest_is_one nat_cmp_total nat_cmp-IsAntisymmetric _ (last_empty map from) answer last_empty-IsLast h

  -- What is the greatest empty word below it is what `prev_empty` answers.
  pub prev_empty_is : (answer : Option ℕ) → IsPrev word_order (is_empty_word map) from answer → prev_empty map from ≡ answer
  prev_empty_is answer h = greatest_is_one nat_cmp_total nat_cmp-IsAntisymmetric _ (prev_empty map from) answer prev_empty-IsPrev h

-- ---- runs of keys

module _ (map : FinMap word_order ℕ) where
  -- A word that the map doesn't contain is empty.
  pub is_empty_word-from : (word : ℕ) → word < 2 ^ 64 → contains_key map word ≡ false → is_empty_word map word ≡ true
  is_empty_word-from word small absent = and_from (nat_lt word (2 ^ 64)) (not (contains_key map word)) (lt-ltb word (2 ^ 64) small) (not_from_false (contains_key map word) absent)

  -- An empty word is a word, and the map doesn't contain it.
  pub empty_word_parts : (word : ℕ) → is_empty_word map word ≡ true → (word < 2 ^ 64) × (contains_key map word ≡ false)
  empty_word_parts word empty =
      let parts = and_parts (nat_lt word (2 ^ 64)) (not (contains_key map word)) empty in
      (ltb-true word (2 ^ 64) parts.0, not-true (contains_key map word) parts.1)

  least_run : (side : ℕ → Bool) (word : ℕ) → side word ≡ true → word < 2 ^ 64 → contains_key map word ≡ false → ((key : ℕ) → side key ≡ true → key < word → contains_key map key ≡ true) →
      IsLeast word_order (λ key. is_empty_word map key && side key) (Some word)
  least_run side word here small absent run = (
    and_from (is_empty_word map word) (side word) (is_empty_word-from word small absent) here,
    λ key both.
        let parts = and_parts (is_empty_word map key) (side key) both in
        ⊎_elim
        (λ below. not_both (contains_key map key) (run key parts.1 below) (empty_word_parts key parts.0).1)
        (λ above. is_le_word word key ∙ le-leb word key above)
        (cases_lt key word),
  )

  greatest_run : (side : ℕ → Bool) (word : ℕ) → side word ≡ true → word < 2 ^ 64 → contains_key map word ≡ false →
      ((key : ℕ) → side key ≡ true → word < key → key < 2 ^ 64 → contains_key map key ≡ true) → IsGreatest word_order (λ key. is_empty_word map key && side key) (Some word)
  greatest_run side word here small absent run = (
    and_from (is_empty_word map word) (side word) (is_empty_word-from word small absent) here,
    λ key both.
        let parts = and_parts (is_empty_word map key) (side key) both in
        let empty = empty_word_parts key parts.0 in
        ⊎_elim
        (λ above. not_both (contains_key map key) (run key parts.1 above empty.0) empty.1)
        (λ below. is_le_word key word ∙ le-leb key word below)
        (cases_lt word key),
  )

  no_empty : (side : ℕ → Bool) → ((key : ℕ) → side key ≡ true → key < 2 ^ 64 → contains_key map key ≡ true) → (key : ℕ) → IsFalse (is_empty_word map key && side key)
  no_empty side run key = false_from_ne_true (is_empty_word map key && side key) (λ both.
      let parts = and_parts (is_empty_word map key) (side key) both in
      let empty = empty_word_parts key parts.0 in
      not_both (contains_key map key) (run key parts.1 empty.0) empty.1)

  -- Where each word from the given number up to an empty one is a key, `first_empty` answers that one.
  pub first_empty_run : (from word : ℕ) → from ≤ word → word < 2 ^ 64 → contains_key map word ≡ false → ((key : ℕ) → from ≤ key → key < word → contains_key map key ≡ true) →
      first_empty map from ≡ Some word
  first_empty_run from word reached small absent run =
      first_empty_is map from (Some word) (least_run (λ key. is_ge (word_order key from)) word (is_ge_word word from ∙ le-leb from word reached) small absent
      (λ key side below. run key (leb-true from key (sym (is_ge_word key from) ∙ side)) below))

  -- Where each word from the given number on is a key, it answers none.
  pub first_empty_run_none : (from : ℕ) → ((key : ℕ) → from ≤ key → key < 2 ^ 64 → contains_key map key ≡ true) → first_empty map from ≡ None
  first_empty_run_none from run =
      first_empty_is map from None (no_empty (λ key. is_ge (word_order key from)) (λ key side small. run key (leb-true from key (sym (is_ge_word key from) ∙ side)) small))

  -- Where each word above the given number up to an empty one is a key, `next_empty` answers that one.
  pub next_empty_run : (from word : ℕ) → from < word → word < 2 ^ 64 → contains_key map word ≡ false → ((key : ℕ) → from < key → key < word → contains_key map key ≡ true) →
      next_empty map from ≡ Some word
  next_empty_run from word reached small absent run =
      next_empty_is map from (Some word) (least_run (λ key. is_gt (word_order key from)) word (is_gt_word word from ∙ lt-ltb from word reached) small absent
      (λ key side below. run key (ltb-true from key (sym (is_gt_word key from) ∙ side)) below))

  -- Where each word above the given number is a key, it answers none.
  pub next_empty_run_none : (from : ℕ) → ((key : ℕ) → from < key → key < 2 ^ 64 → contains_key map key ≡ true) → next_empty map from ≡ None
  next_empty_run_none from run =
      next_empty_is map from None (no_empty (λ key. is_gt (word_order key from)) (λ key side small. run key (ltb-true from key (sym (is_gt_word key from) ∙ side)) small))

  -- Where each word from the given number down to an empty one is a key, `last_empty` answers that one.
  pub last_empty_run : (from word : ℕ) → word ≤ from → word < 2 ^ 64 → contains_key map word ≡ false → ((key : ℕ) → word < key → key ≤ from → key < 2 ^ 64 → contains_key map key ≡ true) →
      last_empty map from ≡ Some word
  last_empty_run from word reached small absent run =
      last_empty_is map from (Some word) (greatest_run (λ key. is_le (word_order key from)) word (is_le_word word from ∙ le-leb word from reached) small absent
      (λ key side above small. run key above (leb-true key from (sym (is_le_word key from) ∙ side)) small))

  -- Where each word from the given number down is a key, it answers none.
  pub last_empty_run_none : (from : ℕ) → ((key : ℕ) → key ≤ from → key < 2 ^ 64 → contains_key map key ≡ true) → last_empty map from ≡ None
  last_empty_run_none from run =
      last_empty_is map from None (no_empty (λ key. is_le (word_order key from)) (λ key side small. run key (leb-true key from (sym (is_le_word key from) ∙ side)) small))

  -- Where each word below the given number down to an empty one is a key, `prev_empty` answers that one.
  pub prev_empty_run : (from word : ℕ) → word < from → word < 2 ^ 64 → contains_key map word ≡ false → ((key : ℕ) → word < key → key < from → key < 2 ^ 64 → contains_key map key ≡ true) →
      prev_empty map from ≡ Some word
  prev_empty_run from word reached small absent run =
      prev_empty_is map from (Some word) (greatest_run (λ key. is_lt (word_order key from)) word (is_lt_word word from ∙ lt-ltb word from reached) small absent
      (λ key side above small. run key above (ltb-true key from (sym (is_lt_word key from) ∙ side)) small))

  -- Where each word below the given number is a key, it answers none.
  pub prev_empty_run_none : (from : ℕ) → ((key : ℕ) → key < from → key < 2 ^ 64 → contains_key map key ≡ true) → prev_empty map from ≡ None
  prev_empty_run_none from run =
      prev_empty_is map from None (no_empty (λ key. is_lt (word_order key from)) (λ key side small. run key (ltb-true key from (sym (is_lt_word key from) ∙ side)) small))
