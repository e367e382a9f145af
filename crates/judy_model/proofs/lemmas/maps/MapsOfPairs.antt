-- What the calls of finite maps give where the map is that of pairs in order: the same calls on the pairs, which compute.
use Rattle.std.proofs.Common.{◌≡◌, ℕ, ◌+◌, ◌-◌, ◌^◌, leb, ltb, leb-true, ltb-true, false, Some, arith, ◌&&◌, ◌==◌, cond, true, not, T, List, [], length, None, Ordering, refl, sym, subst}
use Rattle.std.specs.Prelude.{filter, slice_get}
use Rattle.std.specs.Ordering.{is_lt, is_le, eq_by_cmp}
use Rattle.std.specs.Cmp.{IsTotalOrder, nat_cmp_total}
use Rattle.std.specs.Cmp.Lexicographic.{nat_list_cmp_total}
use Rattle.std.specs.FinMap.{FinMap, empty, keys, contains_key, IsAntisymmetric, nat_cmp-IsAntisymmetric, slice_cmp-IsAntisymmetric, entries, get, len, insert, remove, from_sorted}
use Rattle.std.specs.FinMap.{find, put, is_sorted, entries-from_sorted, get-from_sorted}
use Rattle.std.specs.FinMap.Entries.{where_key}
use Rattle.judy_model.specs.Keys.{word_order, byte_order}
use Rattle.judy_model.specs.Neighbours as neighbours
use Rattle.judy_model.specs.Counts as counts
use Rattle.judy_model.specs.Empties.{first_empty, next_empty, last_empty, prev_empty}
use Rattle.judy_model.proofs.lemmas.queries.EmptiesLemmas.{first_empty_run, next_empty_run, next_empty_run_none, last_empty_run, prev_empty_run, prev_empty_run_none}
use Rattle.judy_model.proofs.lemmas.maps.SortedMaps.{from_sorted-nil, len-from_sorted, insert-from_sorted, remove-from_sorted}

module _ {K : Type 0} (order : K → K → Ordering) (pairs : List (K × ℕ)) (rising : is_sorted order pairs ≡ true) where
  sorted : T (is_sorted order pairs)
  sorted = subst T (sym rising) tt

  held : entries (from_sorted {R = order} pairs) ≡ pairs
  held = entries-from_sorted order pairs sorted

  found : (key : K) → get (from_sorted {R = order} pairs) key ≡ find order key pairs
  found key = get-from_sorted order pairs key sorted

  long : len (from_sorted {R = order} pairs) ≡ length pairs
  long = len-from_sorted order pairs sorted

  taken_out : IsTotalOrder order → IsAntisymmetric order → (key : K) → remove (from_sorted {R = order} pairs) key ≡ from_sorted (where_key order (λ other. not (eq_by_cmp order key other)) pairs)
  taken_out total same key = remove-from_sorted total same pairs key sorted

  written : IsTotalOrder order → (key : K) (value : ℕ) → insert (from_sorted {R = order} pairs) key value ≡ from_sorted (put order key value pairs)
  written total key value = insert-from_sorted order total pairs key value sorted

-- searches among the keys
module _ {K : Type 0} {order : K → K → Ordering} (map : FinMap order ℕ) (key : K) where
  pub first-is : neighbours.first map key ≡ neighbours.first_of order (keys map) key
  unfolding neighbours.first
  first-is = refl

  pub next-is : neighbours.next map key ≡ neighbours.next_of order (keys map) key
  unfolding neighbours.next
  next-is = refl

  pub last-is : neighbours.last map key ≡ neighbours.last_of order (keys map) key
  unfolding neighbours.last
  last-is = refl

  pub prev-is : neighbours.prev map key ≡ neighbours.prev_of order (keys map) key
  unfolding neighbours.prev
  prev-is = refl

  pub rank-is : counts.rank map key ≡ length (filter (λ other. is_lt (order other key)) (keys map))
  unfolding counts.rank
  rank-is = refl

  pub count_up_to-is : counts.count_up_to map key ≡ length (filter (λ other. is_le (order other key)) (keys map))
  unfolding counts.count_up_to
  count_up_to-is = refl

  pub count-is : (to : K) → counts.count map key to ≡ length (filter (λ other. is_le (order key other) && is_le (order other to)) (keys map))
  unfolding counts.count counts.keys_between
  count-is to = refl

module _ {K : Type 0} {order : K → K → Ordering} (map : FinMap order ℕ) (n : ℕ) where
  pub nth-is : counts.nth map n ≡ slice_get (keys map) n
  unfolding counts.nth
  nth-is = refl

  pub by_count-is : counts.by_count map n ≡ cond (n == 0) None (slice_get (keys map) (n - 1))
  unfolding counts.by_count
  by_count-is = refl

pub ruleset searches_computed = (first-is, next-is, last-is, prev-is, rank-is, count_up_to-is, count-is, nth-is, by_count-is)

-- searches among the words that are no keys: one is at the given word, or one behind it
module _ (map : FinMap word_order ℕ) (from : ℕ) where
  pub first_empty-here : contains_key map from ≡ false → ltb from (2 ^ 64) ≡ true → first_empty map from ≡ Some from
  first_empty-here absent small = first_empty_run map from from (omega arith) (ltb-true from (2 ^ 64) small) absent (λ key low high. absurd (omega (arith, low, high)))

  pub first_empty-behind : contains_key map from ≡ true → contains_key map (from + 1) ≡ false → ltb (from + 1) (2 ^ 64) ≡ true → first_empty map from ≡ Some (from + 1)
  first_empty-behind here absent small =
      first_empty_run map from (from + 1) (omega arith) (ltb-true (from + 1) (2 ^ 64) small) absent (λ key low high. let e : from ≡ key = omega (arith, low, high) in
      subst (λ key. contains_key map key ≡ true) e here)

  pub next_empty-behind : contains_key map (from + 1) ≡ false → ltb (from + 1) (2 ^ 64) ≡ true → next_empty map from ≡ Some (from + 1)
  next_empty-behind absent small = next_empty_run map from (from + 1) (omega arith) (ltb-true (from + 1) (2 ^ 64) small) absent (λ key low high. absurd (omega (arith, low, high)))

  pub next_empty-two_behind : contains_key map (from + 1) ≡ true → contains_key map (from + 2) ≡ false → ltb (from + 2) (2 ^ 64) ≡ true → next_empty map from ≡ Some (from + 2)
  next_empty-two_behind behind absent small =
      next_empty_run map from (from + 2) (omega arith) (ltb-true (from + 2) (2 ^ 64) small) absent (λ key low high. let e : from + 1 ≡ key = omega (arith, low, high) in
      subst (λ key. contains_key map key ≡ true) e behind)

  pub next_empty-none : leb (2 ^ 64) (from + 1) ≡ true → next_empty map from ≡ None
  next_empty-none end = next_empty_run_none map from (λ key low high. absurd (omega (arith, low, high, leb-true (2 ^ 64) (from + 1) end)))

  pub last_empty-here : contains_key map from ≡ false → ltb from (2 ^ 64) ≡ true → last_empty map from ≡ Some from
  last_empty-here absent small = last_empty_run map from from (omega arith) (ltb-true from (2 ^ 64) small) absent (λ key low high is_word. absurd (omega (arith, low, high)))

  pub last_empty-before : contains_key map from ≡ true → ltb 0 from ≡ true → contains_key map (from - 1) ≡ false → ltb from (2 ^ 64) ≡ true → last_empty map from ≡ Some (from - 1)
  last_empty-before here some absent small =
      let above = ltb-true 0 from some in
      last_empty_run map from (from - 1) (omega arith) (omega (arith, ltb-true from (2 ^ 64) small)) absent
      (λ key low high is_word. let e : from ≡ key = omega (arith, low, high, above) in subst (λ key. contains_key map key ≡ true) e here)

  pub prev_empty-before : ltb 0 from ≡ true → contains_key map (from - 1) ≡ false → ltb from (2 ^ 64) ≡ true → prev_empty map from ≡ Some (from - 1)
  prev_empty-before some absent small =
      let above = ltb-true 0 from some in
      prev_empty_run map from (from - 1) (omega (arith, above)) (omega (arith, ltb-true from (2 ^ 64) small)) absent (λ key low high is_word. absurd (omega (arith, low, high)))

  pub prev_empty-two_before : ltb 1 from ≡ true → contains_key map (from - 1) ≡ true → contains_key map (from - 2) ≡ false → ltb from (2 ^ 64) ≡ true → prev_empty map from ≡ Some (from - 2)
  prev_empty-two_before some before absent small =
      let above = ltb-true 1 from some in
      prev_empty_run map from (from - 2) (omega (arith, above)) (omega (arith, ltb-true from (2 ^ 64) small)) absent
      (λ key low high is_word. let e : from - 1 ≡ key = omega (arith, low, high, above) in subst (λ key. contains_key map key ≡ true) e before)

pub prev_empty-none : (map : FinMap word_order ℕ) → prev_empty map 0 ≡ None
prev_empty-none map = prev_empty_run_none map 0 (λ key below is_word. absurd (omega (arith, below)))

pub ruleset empties_computed = (
  first_empty-here,
  first_empty-behind,
  next_empty-behind,
  next_empty-two_behind,
  next_empty-none,
  last_empty-here,
  last_empty-before,
  prev_empty-before,
  prev_empty-two_before,
  prev_empty-none,
)

-- of words
pub words-entries : (pairs : List (ℕ × ℕ)) → is_sorted word_order pairs ≡ true → entries (from_sorted {R = word_order} pairs) ≡ pairs
words-entries = held word_order

pub words-get : (pairs : List (ℕ × ℕ)) (key : ℕ) → is_sorted word_order pairs ≡ true → get (from_sorted {R = word_order} pairs) key ≡ find word_order key pairs
words-get pairs key rising = found word_order pairs rising key

pub words-len : (pairs : List (ℕ × ℕ)) → is_sorted word_order pairs ≡ true → len (from_sorted {R = word_order} pairs) ≡ length pairs
words-len = long word_order

pub words-insert : (pairs : List (ℕ × ℕ)) (key value : ℕ) → is_sorted word_order pairs ≡ true → insert (from_sorted {R = word_order} pairs) key value ≡ from_sorted (put word_order key value pairs)
words-insert pairs key value rising = written word_order pairs rising nat_cmp_total key value

pub words-remove : (pairs : List (ℕ × ℕ)) (key : ℕ) → is_sorted word_order pairs ≡ true → remove (from_sorted {R = word_order} pairs) key ≡
    from_sorted (where_key word_order (λ other. not (eq_by_cmp word_order key other)) pairs)
words-remove pairs key rising = taken_out word_order pairs rising nat_cmp_total nat_cmp-IsAntisymmetric key

pub words-empty : (empty {X = ℕ} {R = word_order}) ≡ from_sorted []
words-empty = sym (from_sorted-nil word_order)

pub ruleset words_computed = (words-entries, words-get, words-len, words-insert, words-remove, words-empty, searches_computed, empties_computed)

-- of byte strings
pub bytes-entries : (pairs : List (List ℕ × ℕ)) → is_sorted byte_order pairs ≡ true → entries (from_sorted {R = byte_order} pairs) ≡ pairs
bytes-entries = held byte_order

pub bytes-get : (pairs : List (List ℕ × ℕ)) (key : List ℕ) → is_sorted byte_order pairs ≡ true → get (from_sorted {R = byte_order} pairs) key ≡ find byte_order key pairs
bytes-get pairs key rising = found byte_order pairs rising key

pub bytes-len : (pairs : List (List ℕ × ℕ)) → is_sorted byte_order pairs ≡ true → len (from_sorted {R = byte_order} pairs) ≡ length pairs
bytes-len = long byte_order

pub bytes-insert : (pairs : List (List ℕ × ℕ)) (key : List ℕ) (value : ℕ) → is_sorted byte_order pairs ≡ true →
    insert (from_sorted {R = byte_order} pairs) key value ≡ from_sorted (put byte_order key value pairs)
bytes-insert pairs key value rising = written byte_order pairs rising nat_list_cmp_total key value

pub bytes-remove : (pairs : List (List ℕ × ℕ)) (key : List ℕ) → is_sorted byte_order pairs ≡ true → remove (from_sorted {R = byte_order} pairs) key ≡
    from_sorted (where_key byte_order (λ other. not (eq_by_cmp byte_order key other)) pairs)
bytes-remove pairs key rising = taken_out byte_order pairs rising nat_list_cmp_total (slice_cmp-IsAntisymmetric nat_cmp-IsAntisymmetric) key

pub bytes-empty : (empty {X = ℕ} {R = byte_order}) ≡ from_sorted []
bytes-empty = sym (from_sorted-nil byte_order)

pub ruleset bytes_computed = (bytes-entries, bytes-get, bytes-len, bytes-insert, bytes-remove, bytes-empty, searches_computed)
