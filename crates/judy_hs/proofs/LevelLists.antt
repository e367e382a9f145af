-- Two levels as a list: of the parts that the words of an array lead to, one after the other, where each key tells the
-- word of its part.
use Rattle.std.proofs.Common.{◌≡◌, ◌≢◌, ℕ, false, cond, T, List, [], ◌∷◌, ◌++◌, length, Option, Some, None, Less, Equal, Greater, refl, sym, ap, ◌∙◌, inl, inr, ⊎_elim}
use Rattle.std.specs.declared.cmp.Ordering.{Ordering}
use Rattle.std.specs.Ordering.{is_lt, is_eq, eq_by_cmp, ordering_then}
use Rattle.std.specs.List.{flat_map}
use Rattle.std.specs.Cmp.{nat_cmp_total, tied_itself}
use Rattle.std.specs.FinMap.{find, is_sorted, nat_cmp-IsAntisymmetric}
use Rattle.std.specs.FinMap.Entries.{below_all}
use Rattle.std.proofs.lemmas.Bool.{false_from_ne_true}
use Rattle.std.proofs.lemmas.Option.{none-some}
use Rattle.judy_model.specs.Keys.{word_order, byte_order}
use Rattle.judy_model.specs.DumpText.{length_order}
use Rattle.judy_model.proofs.lemmas.orders.Orders.{same_from_tie}
use Rattle.judy_model.proofs.lemmas.maps.Tests.{left_of, right_of, both, is_Less}
use Rattle.judy_hs.specs.Chains.{Pairs, value_in, AreApart}
use Rattle.judy_hs.proofs.ChainLemmas.{bytes_cases, value_in-here, value_in-later}
use Rattle.judy_hs.proofs.TwoLevels.{same_or_not}

-- ---- tests

less_holds : (r : Ordering) → r ≡ Less → T (is_lt r)
less_holds Less e = tt
less_holds Equal e = absurd cc
less_holds Greater e = absurd cc

not_tied : (r : Ordering) → r ≡ Less → is_eq r ≡ false
not_tied Less e = refl
not_tied Equal e = absurd cc
not_tied Greater e = refl

-- ---- entries in the order of words

-- The first entry's word is found there, and every other word among the rest.
pub find_here : (entry : ℕ × ℕ) (rest : List (ℕ × ℕ)) → find word_order entry.0 (entry ∷ rest) ≡ Some entry.1
find_here entry rest = ap (λ b. cond b (Some entry.1) (find word_order entry.0 rest)) (ap is_eq (tied_itself nat_cmp_total entry.0))

pub find_later : (word : ℕ) (entry : ℕ × ℕ) (rest : List (ℕ × ℕ)) → word ≢ entry.0 → find word_order word (entry ∷ rest) ≡ find word_order word rest
find_later word entry rest differ =
    ap (λ b. cond b (Some entry.1) (find word_order word rest)) (false_from_ne_true (eq_by_cmp word_order word entry.0) (λ tied. differ (same_from_tie nat_cmp-IsAntisymmetric word entry.0 tied)))

-- A word below all others isn't among them.
pub find_below : (word : ℕ) (rest : List (ℕ × ℕ)) → T (below_all word_order word rest) → find word_order word rest ≡ None
find_below word [] below = refl
find_below word (entry ∷ rest) below =
    ap (λ b. cond b (Some entry.1) (find word_order word rest)) (not_tied (word_order word entry.0) (is_Less (word_order word entry.0)
    (left_of (is_lt (word_order word entry.0)) (below_all word_order word rest) below)))
    ∙ find_below word rest (right_of (is_lt (word_order word entry.0)) (below_all word_order word rest) below)

-- One that is below all is below each that is found.
below_found : (word other place : ℕ) (rest : List (ℕ × ℕ)) → T (below_all word_order word rest) → find word_order other rest ≡ Some place → word_order word other ≡ Less
below_found word other place [] below is = absurd (none-some place is)
below_found word other place (entry ∷ rest) below is = ⊎_elim
    (λ (same : other ≡ entry.0). ap (word_order word) same ∙ is_Less (word_order word entry.0) (left_of (is_lt (word_order word entry.0)) (below_all word_order word rest) below))
    (λ differ. below_found word other place rest (right_of (is_lt (word_order word entry.0)) (below_all word_order word rest) below) (sym (find_later other entry rest differ) ∙ is))
    (same_or_not other entry.0)

first_below : (entry : ℕ × ℕ) (rest : List (ℕ × ℕ)) → T (is_sorted word_order (entry ∷ rest)) → T (below_all word_order entry.0 rest)
first_below entry rest sorted = left_of (below_all word_order entry.0 rest) (is_sorted word_order rest) sorted

rest_sorted : (entry : ℕ × ℕ) (rest : List (ℕ × ℕ)) → T (is_sorted word_order (entry ∷ rest)) → T (is_sorted word_order rest)
rest_sorted entry rest sorted = right_of (below_all word_order entry.0 rest) (is_sorted word_order rest) sorted

-- What is found among the rest is found among all.
found_later : (entry : ℕ × ℕ) (rest : List (ℕ × ℕ)) → T (is_sorted word_order (entry ∷ rest)) → (word place : ℕ) → find word_order word rest ≡ Some place →
    find word_order word (entry ∷ rest) ≡ Some place
found_later entry rest sorted word place is = ⊎_elim
    (λ (same : word ≡ entry.0). absurd (none-some place (sym (find_below entry.0 rest (first_below entry rest sorted)) ∙ ap (λ w. find word_order w rest) (sym same) ∙ is)))
    (λ differ. find_later word entry rest differ ∙ is)
    (same_or_not word entry.0)

-- ---- pairs one after the other

pub append_some : (front back : Pairs) (key : List ℕ) (value : ℕ) → value_in front key ≡ Some value → value_in (front ++ back) key ≡ Some value
append_some [] back key value is = absurd (none-some value is)
append_some (pair ∷ rest) back key value is = elim (bytes_cases pair.0 key) [
  | inl same ↦ value_in-here pair (rest ++ back) key same ∙ sym (value_in-here pair rest key same) ∙ is
  | inr differ ↦ value_in-later pair (rest ++ back) key differ ∙ append_some rest back key value (sym (value_in-later pair rest key differ) ∙ is)
]

pub append_none : (front back : Pairs) (key : List ℕ) → value_in front key ≡ None → value_in (front ++ back) key ≡ value_in back key
append_none [] back key is = refl
append_none (pair ∷ rest) back key is = elim (bytes_cases pair.0 key) [
  | inl same ↦ absurd (none-some pair.1 (sym is ∙ value_in-here pair rest key same))
  | inr differ ↦ value_in-later pair (rest ++ back) key differ ∙ append_none rest back key (sym (value_in-later pair rest key differ) ∙ is)
]

-- A key that is found among the rest is found.
still_found : (pair : List ℕ × ℕ) (rest : Pairs) (key : List ℕ) (value : ℕ) → value_in rest key ≡ Some value → (found : ℕ) × (value_in (pair ∷ rest) key ≡ Some found)
still_found pair rest key value is = elim (bytes_cases pair.0 key) [
  | inl same ↦ (pair.1, value_in-here pair rest key same)
  | inr differ ↦ (value, value_in-later pair rest key differ ∙ is)
]

apart_append : (front back : Pairs) → AreApart front → AreApart back → ((key : List ℕ) (value : ℕ) → value_in front key ≡ Some value → value_in back key ≡ None) → AreApart (front ++ back)
apart_append [] back one other never = other
apart_append (pair ∷ rest) back one other never = (
  append_none rest back pair.0 one.0 ∙ never pair.0 pair.1 (value_in-here pair rest pair.0 refl),
  apart_append rest back one.1 other (λ key value is. let found = still_found pair rest key value is in never key found.0 found.1),
)

-- ---- order

-- A key is below pairs where it is below each key that is found among them.
pub below_found_keys : (order : List ℕ → List ℕ → Ordering) (key : List ℕ) (pairs : Pairs) → ((other : List ℕ) (value : ℕ) → value_in pairs other ≡ Some value → order key other ≡ Less) →
    T (below_all order key pairs)
below_found_keys order key [] each = tt
below_found_keys order key (pair ∷ rest) each =
    both (is_lt (order key pair.0)) (below_all order key rest) (less_holds (order key pair.0) (each pair.0 pair.1 (value_in-here pair rest pair.0 refl)))
    (below_found_keys order key rest (λ other value is. let found = still_found pair rest other value is in each other found.0 found.1))

-- It is below each of them.
found_above : (order : List ℕ → List ℕ → Ordering) (key : List ℕ) (pairs : Pairs) → T (below_all order key pairs) → (other : List ℕ) (value : ℕ) →
    value_in pairs other ≡ Some value → order key other ≡ Less
found_above order key [] below other value is = absurd (none-some value is)
found_above order key (pair ∷ rest) below other value is = elim (bytes_cases pair.0 other) [
  | inl same ↦ ap (order key) (sym same) ∙ is_Less (order key pair.0) (left_of (is_lt (order key pair.0)) (below_all order key rest) below)
  | inr differ ↦ found_above order key rest (right_of (is_lt (order key pair.0)) (below_all order key rest) below) other value (sym (value_in-later pair rest other differ) ∙ is)
]

below_append : (order : List ℕ → List ℕ → Ordering) (key : List ℕ) (front back : Pairs) → T (below_all order key front) → T (below_all order key back) → T (below_all order key (front ++ back))
below_append order key [] back one other = other
below_append order key (pair ∷ rest) back one other =
    both (is_lt (order key pair.0)) (below_all order key (rest ++ back)) (left_of (is_lt (order key pair.0)) (below_all order key rest) one)
    (below_append order key rest back (right_of (is_lt (order key pair.0)) (below_all order key rest) one) other)

sorted_append : (order : List ℕ → List ℕ → Ordering) (front back : Pairs) → T (is_sorted order front) → T (is_sorted order back) →
    ((key : List ℕ) (value : ℕ) → value_in front key ≡ Some value → T (below_all order key back)) → T (is_sorted order (front ++ back))
sorted_append order [] back one other each = other
sorted_append order (pair ∷ rest) back one other each =
    both (below_all order pair.0 (rest ++ back)) (is_sorted order (rest ++ back))
    (below_append order pair.0 rest back (left_of (below_all order pair.0 rest) (is_sorted order rest) one) (each pair.0 pair.1 (value_in-here pair rest pair.0 refl)))
    (sorted_append order rest back (right_of (below_all order pair.0 rest) (is_sorted order rest) one) other
    (λ key value is. let found = still_found pair rest key value is in each key found.0 found.1))

-- Keys of one length are in the order of a dump where they are in that of their bytes.
pub sorted_by_length : (key_length : ℕ) (pairs : Pairs) → T (is_sorted byte_order pairs) → ((key : List ℕ) (value : ℕ) → value_in pairs key ≡ Some value → length key ≡ key_length) →
    T (is_sorted length_order pairs)
sorted_by_length key_length [] sorted long = tt
sorted_by_length key_length (pair ∷ rest) sorted long =
    let here = long pair.0 pair.1 (value_in-here pair rest pair.0 refl) in
    let later : (key : List ℕ) (value : ℕ) → value_in rest key ≡ Some value → length key ≡ key_length = λ key value is. let found = still_found pair rest key value is in long key found.0 found.1 in
    both (below_all length_order pair.0 rest) (is_sorted length_order rest)
    (below_found_keys length_order pair.0 rest (λ other value is.
    (λ t. ordering_then (word_order (here t) (later other value is t)) (byte_order pair.0 other)) ∙ ap (λ r. ordering_then r (byte_order pair.0 other)) (tied_itself nat_cmp_total key_length)
    ∙ found_above byte_order pair.0 rest (left_of (below_all byte_order pair.0 rest) (is_sorted byte_order rest) sorted) other value is))
    (sorted_by_length key_length rest (right_of (below_all byte_order pair.0 rest) (is_sorted byte_order rest) sorted) later)

-- ---- the parts that words lead to

module _ (part : ℕ × ℕ → Pairs) (tell : List ℕ → ℕ) where
  -- Each key of a part tells its word.
  abbrev pub Tells : List (ℕ × ℕ) → Type 0
  Tells entries = (word place : ℕ) → find word_order word entries ≡ Some place → (key : List ℕ) (value : ℕ) → value_in (part (word, place)) key ≡ Some value → tell key ≡ word

  -- What a key has by what its word leads to.
  abbrev pub led : Option ℕ → List ℕ → Option ℕ
  led None key = None
  led (Some place) key = value_in (part (tell key, place)) key

  module _ (entry : ℕ × ℕ) (rest : List (ℕ × ℕ)) (sorted : T (is_sorted word_order (entry ∷ rest))) (tells : Tells (entry ∷ rest)) where
    later_tells : Tells rest
    later_tells word place is key value held = tells word place (found_later entry rest sorted word place is) key value held

    here_tells : (key : List ℕ) (value : ℕ) → value_in (part entry) key ≡ Some value → tell key ≡ entry.0
    here_tells = tells entry.0 entry.1 (find_here entry rest)

    -- A key that tells the first word isn't in a later part.
    not_later : (key : List ℕ) → tell key ≡ entry.0 → led (find word_order (tell key) rest) key ≡ None
    not_later key same = ap (λ (found : Option ℕ). led found key) (ap (λ w. find word_order w rest) same ∙ find_below entry.0 rest (first_below entry rest sorted))

    -- Where the first part doesn't hold a key, its word isn't the first or leads to none.
    missed : (key : List ℕ) → value_in (part entry) key ≡ None → led (find word_order (tell key) (entry ∷ rest)) key ≡ led (find word_order (tell key) rest) key
    missed key absent = ⊎_elim
        (λ (same : tell key ≡ entry.0).
        ap (λ (found : Option ℕ). led found key) (ap (λ w. find word_order w (entry ∷ rest)) same ∙ find_here entry rest) ∙ ap (λ w. value_in (part (w, entry.1)) key) same ∙
        absent ∙ sym (not_later key same))
        (λ differ. ap (λ (found : Option ℕ). led found key) (find_later (tell key) entry rest differ))
        (same_or_not (tell key) entry.0)

    held : (key : List ℕ) (value : ℕ) → value_in (part entry) key ≡ Some value → led (find word_order (tell key) (entry ∷ rest)) key ≡ Some value
    held key value is =
        let same = here_tells key value is in
        ap (λ (found : Option ℕ). led found key) (ap (λ w. find word_order w (entry ∷ rest)) same ∙ find_here entry rest) ∙ ap (λ w. value_in (part (w, entry.1)) key) same ∙ is

  value_first : (entry : ℕ × ℕ) (rest : List (ℕ × ℕ)) (sorted : T (is_sorted word_order (entry ∷ rest))) (tells : Tells (entry ∷ rest)) (key : List ℕ) →
      value_in (flat_map part rest) key ≡ led (find word_order (tell key) rest) key
      → (found : Option ℕ) → value_in (part entry) key ≡ found → value_in (part entry ++ flat_map part rest) key ≡ led (find word_order (tell key) (entry ∷ rest)) key
  value_first entry rest sorted tells key later None is = append_none (part entry) (flat_map part rest) key is ∙ later ∙ sym (missed entry rest sorted tells key is)
  value_first entry rest sorted tells key later (Some value) is = append_some (part entry) (flat_map part rest) key value is ∙ sym (held entry rest sorted tells key value is)

  -- The list answers as the way through the words does.
  pub value_levels : (entries : List (ℕ × ℕ)) → T (is_sorted word_order entries) → Tells entries → (key : List ℕ) → value_in (flat_map part entries) key ≡ led (find word_order (tell key) entries) key
  value_levels [] sorted tells key = refl
  value_levels (entry ∷ rest) sorted tells key =
      value_first entry rest sorted tells key (value_levels rest (rest_sorted entry rest sorted) (later_tells entry rest sorted tells) key) (value_in (part entry) key) refl

  -- No key is in two parts.
  pub apart_levels : (entries : List (ℕ × ℕ)) → T (is_sorted word_order entries) → Tells entries → ((word place : ℕ) → find word_order word entries ≡ Some place →
      AreApart (part (word, place))) → AreApart (flat_map part entries)
  apart_levels [] sorted tells each = tt
  apart_levels (entry ∷ rest) sorted tells each =
      apart_append (part entry) (flat_map part rest) (each entry.0 entry.1 (find_here entry rest))
      (apart_levels rest (rest_sorted entry rest sorted) (later_tells entry rest sorted tells) (λ word place is. each word place (found_later entry rest sorted word place is)))
      (λ key value is.
      value_levels rest (rest_sorted entry rest sorted) (later_tells entry rest sorted tells) key ∙ not_later entry rest sorted tells key (here_tells entry rest sorted tells key value is))

  -- What is found leads through its word.
  led_by : (found : Option ℕ) (key : List ℕ) (value : ℕ) → led found key ≡ Some value → (place : ℕ) × (found ≡ Some place) × (value_in (part (tell key, place)) key ≡ Some value)
  led_by None key value is = absurd (none-some value is)
  led_by (Some place) key value is = (place, refl, is)

  pub found_levels : (entries : List (ℕ × ℕ)) → T (is_sorted word_order entries) → Tells entries → (key : List ℕ) (value : ℕ) → value_in (flat_map part entries) key ≡ Some value →
      (place : ℕ) × (find word_order (tell key) entries ≡ Some place) × (value_in (part (tell key, place)) key ≡ Some value)
  found_levels entries sorted tells key value is = led_by (find word_order (tell key) entries) key value (sym (value_levels entries sorted tells key) ∙ is)

-- Parts of keys of ascending lengths, each in the order of their bytes, are in the order of a dump.
pub sorted_levels : (part : ℕ × ℕ → Pairs) (entries : List (ℕ × ℕ)) → T (is_sorted word_order entries) → Tells part length entries →
    ((word place : ℕ) → find word_order word entries ≡ Some place → T (is_sorted byte_order (part (word, place)))) → T (is_sorted length_order (flat_map part entries))
sorted_levels part [] sorted tells each = tt
sorted_levels part (entry ∷ rest) sorted tells each =
    let later = later_tells part length entry rest sorted tells in
    sorted_append length_order (part entry) (flat_map part rest)
    (sorted_by_length entry.0 (part entry) (each entry.0 entry.1 (find_here entry rest)) (here_tells part length entry rest sorted tells))
    (sorted_levels part rest (rest_sorted entry rest sorted) later (λ word place is. each word place (found_later entry rest sorted word place is)))
    (λ key value is. below_found_keys length_order key (flat_map part rest) (λ other worth there.
    let found = found_levels part length rest (rest_sorted entry rest sorted) later other worth there in
    let shorter = ap (λ n. word_order n (length other)) (here_tells part length entry rest sorted tells key value is) ∙
    below_found entry.0 (length other) found.0 rest (first_below entry rest sorted) found.1 in
    ap (λ r. ordering_then r (byte_order key other)) shorter))
