-- What begins a byte string, and the longest key that does.
use Rattle.std.proofs.Common.{◌≡◌, ℕ, ◌+◌, ◌≤◌, Bool, true, false, cond, not, ◌==◌, ◌↔◌, List, [], ◌∷◌, ◌++◌, length, IsTrue, IsFalse, Option, Some, None, refl, sym, ap, ◌∙◌, subst, arith, true≢false}
use Rattle.std.proofs.Common.{Equal, is_le}
use Rattle.std.specs.Ordering.{nat_cmp, ordering_then}
use Rattle.std.specs.Cmp.{nat_cmp_total, tied_itself}
use Rattle.std.specs.Cmp.Lexicographic.{slice_cmp}
use Rattle.std.specs.FinMap.{FinMap, get, keys, len, contains_key}
use Rattle.std.proofs.lemmas.Bool.{eq-eqb, eqb-true}
use Rattle.std.proofs.lemmas.Option.{none-some, same_Some}
use Rattle.judy_model.specs.Keys.{byte_order}
use Rattle.judy_model.specs.Prefixes.{begins_with, beginning_with, without_prefix, longest_prefix}
use Rattle.judy_model.proofs.lemmas.maps.Tests.{both_true, first_true, second_true}
use Rattle.judy_model.proofs.lemmas.maps.Ascending.{GreatestAmong, find_greatest}
use Rattle.judy_model.proofs.lemmas.maps.KeysLemmas.{keys_ascending, among_keys, contains_key-from_among}
use Rattle.judy_model.proofs.lemmas.maps.TableLemmas.{byte_order_total, byte_order_same}
use Rattle.judy_model.proofs.lemmas.maps.TwoMapsLemmas.{get-kept}
use Rattle.judy_laws.proofs.lemmas.Parts.{len-halves}

-- ---- what begins a string

begins_append : (prefix rest : List ℕ) → begins_with prefix (prefix ++ rest) ≡ true
unfolding begins_with
begins_append [] rest = refl
begins_append (byte ∷ prefix) rest = both_true (byte == byte) (begins_with prefix (prefix ++ rest)) (eq-eqb byte byte refl) (begins_append prefix rest)

rest_of : (prefix bytes : List ℕ) → begins_with prefix bytes ≡ true → (rest : List ℕ) × (bytes ≡ prefix ++ rest)
unfolding begins_with
rest_of [] bytes begins = (bytes, refl)
rest_of (byte ∷ prefix) [] begins = absurd (true≢false (sym begins))
rest_of (byte ∷ prefix) (first ∷ bytes) begins =
    let more = rest_of prefix bytes (second_true (byte == first) (begins_with prefix bytes) begins) in
    let same = eqb-true byte first (first_true (byte == first) (begins_with prefix bytes) begins) in
    (more.0, λ t. sym same t ∷ more.1 t)

pub begins_with_a_front : (prefix bytes : List ℕ) → IsTrue (begins_with prefix bytes) ↔ ((rest : List ℕ) × (bytes ≡ prefix ++ rest))
begins_with_a_front prefix bytes = (rest_of prefix bytes, λ more. ap (begins_with prefix) more.1 ∙ begins_append prefix more.0)

-- ---- the keys with a prefix, and all others

pub beginning_answers : (map : FinMap byte_order ℕ) (prefix key : List ℕ) → get (beginning_with map prefix) key ≡ cond (begins_with prefix key) (get map key) None
unfolding beginning_with
beginning_answers map prefix key = get-kept byte_order_total byte_order_same map (begins_with prefix) key

choice : (b : Bool) (value : Option ℕ) → cond (not b) value None ≡ cond b None value
choice true value = refl
choice false value = refl

pub without_answers : (map : FinMap byte_order ℕ) (prefix key : List ℕ) → get (without_prefix map prefix) key ≡ cond (begins_with prefix key) None (get map key)
unfolding without_prefix
without_answers map prefix key = get-kept byte_order_total byte_order_same map (λ other. not (begins_with prefix other)) key ∙ choice (begins_with prefix key) (get map key)

pub prefix_counts : (map : FinMap byte_order ℕ) (prefix : List ℕ) → len (beginning_with map prefix) + len (without_prefix map prefix) ≡ len map
unfolding beginning_with without_prefix
prefix_counts map prefix = len-halves byte_order_total byte_order_same map (begins_with prefix)

-- ---- of two keys that begin a string

-- The greater is the longer.
pub longer : (one other bytes : List ℕ) → begins_with one bytes ≡ true → begins_with other bytes ≡ true → is_le (byte_order other one) ≡ true → length other ≤ length one
unfolding begins_with
longer one [] bytes begins also less = omega arith
longer [] (b ∷ other) bytes begins also less = absurd (true≢false (sym less))
longer (a ∷ one) (b ∷ other) [] begins also less = absurd (true≢false (sym begins))
longer (a ∷ one) (b ∷ other) (first ∷ bytes) begins also less =
    let left = eqb-true a first (first_true (a == first) (begins_with one bytes) begins) in
    let right = eqb-true b first (first_true (b == first) (begins_with other bytes) also) in
    let tied : nat_cmp b a ≡ Equal = (λ t. nat_cmp ((right ∙ sym left) t) a) ∙ tied_itself nat_cmp_total a in
    let rest = longer one other bytes
    (second_true (a == first) (begins_with one bytes) begins)
    (second_true (b == first) (begins_with other bytes) also)
    (sym (ap (λ answer. is_le (ordering_then answer (slice_cmp nat_cmp other one))) tied) ∙ less) in
    omega (arith, rest)

-- Of one length they are one.
alone : (one other bytes : List ℕ) → begins_with one bytes ≡ true → begins_with other bytes ≡ true → length other ≤ length one → length one ≤ length other → one ≡ other
unfolding begins_with
alone [] [] bytes begins also less more = refl
alone [] (b ∷ other) bytes begins also less more = let never : ⊥ = omega (arith, less) in absurd never
alone (a ∷ one) [] bytes begins also less more = let never : ⊥ = omega (arith, more) in absurd never
alone (a ∷ one) (b ∷ other) [] begins also less more = absurd (true≢false (sym begins))
alone (a ∷ one) (b ∷ other) (first ∷ bytes) begins also less more =
    let left = eqb-true a first (first_true (a == first) (begins_with one bytes) begins) in
    let right = eqb-true b first (first_true (b == first) (begins_with other bytes) also) in
    let rest = alone one other bytes
    (second_true (a == first) (begins_with one bytes) begins)
    (second_true (b == first) (begins_with other bytes) also)
    (omega (arith, less))
    (omega (arith, more)) in
    λ t. (left ∙ sym right) t ∷ rest t

-- ---- the longest key

-- A key of the map that the bytes begin with, where no key that they begin with is longer.
abbrev pub IsLongest : FinMap byte_order ℕ → List ℕ → List ℕ → Type 0
IsLongest map bytes key =
    IsTrue (contains_key map key) × IsTrue (begins_with key bytes) × ((other : List ℕ) → IsTrue (contains_key map other) → IsTrue (begins_with other bytes) → length other ≤ length key)

module _ (map : FinMap byte_order ℕ) (bytes : List ℕ) where
  greatest : GreatestAmong byte_order (λ key. begins_with key bytes) (keys map) (longest_prefix map bytes)
  unfolding longest_prefix
  greatest = find_greatest byte_order_total (λ key. begins_with key bytes) (keys map) (keys_ascending map)

  found_none : (answer : Option (List ℕ)) → GreatestAmong byte_order (λ key. begins_with key bytes) (keys map) answer → answer ≡ None →
      (key : List ℕ) → IsTrue (contains_key map key) → IsFalse (begins_with key bytes)
  found_none None none is key held = none key (among_keys byte_order_total byte_order_same map key held)
  found_none (Some found) some is key held = absurd (none-some found (sym is))

  none_found : (answer : Option (List ℕ)) → GreatestAmong byte_order (λ key. begins_with key bytes) (keys map) answer →
      ((key : List ℕ) → IsTrue (contains_key map key) → IsFalse (begins_with key bytes)) → answer ≡ None
  none_found None none never = refl
  none_found (Some found) some never =
      absurd (true≢false (sym some.1 ∙ never found (contains_key-from_among byte_order_total byte_order_same map found some.0)))

  pub none_begins : (longest_prefix map bytes ≡ None) ↔ ((key : List ℕ) → IsTrue (contains_key map key) → IsFalse (begins_with key bytes))
  none_begins = (found_none (longest_prefix map bytes) greatest, none_found (longest_prefix map bytes) greatest)

  is_longest : (found : List ℕ) → GreatestAmong byte_order (λ key. begins_with key bytes) (keys map) (Some found) → IsLongest map bytes found
  is_longest found some = (
    contains_key-from_among byte_order_total byte_order_same map found some.0,
    some.1,
    λ other held begins. longer found other bytes some.1 begins (some.2 other (among_keys byte_order_total byte_order_same map other held) begins),
  )

  found_some : (answer : Option (List ℕ)) → GreatestAmong byte_order (λ key. begins_with key bytes) (keys map) answer → (key : List ℕ) → answer ≡ Some key → IsLongest map bytes key
  found_some None none key is = absurd (none-some key is)
  found_some (Some found) some key is = subst (IsLongest map bytes) (same_Some found key is) (is_longest found some)

  some_found : (answer : Option (List ℕ)) → GreatestAmong byte_order (λ key. begins_with key bytes) (keys map) answer → (key : List ℕ) → IsLongest map bytes key → answer ≡ Some key
  some_found None none key longest = absurd (true≢false (sym longest.1 ∙ none key (among_keys byte_order_total byte_order_same map key longest.0)))
  some_found (Some found) some key longest =
      let also = is_longest found some in
      ap Some (alone found key bytes also.1 longest.1 (also.2 key longest.0 longest.1) (longest.2 found also.0 also.1))

  pub longest_begins : (key : List ℕ) → (longest_prefix map bytes ≡ Some key) ↔ IsLongest map bytes key
  longest_begins key = (found_some (longest_prefix map bytes) greatest key, some_found (longest_prefix map bytes) greatest key)
