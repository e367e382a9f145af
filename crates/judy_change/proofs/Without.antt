-- Pairs without a key, and the value that it had.
use Rattle.std.proofs.Common.{◌≡◌, ◌≢◌, ℕ, zero, suc, ◌+◌, ◌<◌, ◌≤◌, true, false, ◌||◌, cond, eqb, Some, None, List, [], ◌∷◌, ◌++◌, length, get_or, slice_get, sym, refl, ap, ◌∙◌}
use Rattle.std.proofs.Common.{subst, ◌⊎◌, inl, inr, ⊎_elim, arith}
use Rattle.std.specs.List.{remove}
use Rattle.std.specs.List.Sorted.{IsStrictlySortedBy}
use Rattle.std.proofs.lemmas.Bool.{eq-eqb, ne_eqb}
use Rattle.std.proofs.lemmas.Bool.Decides.{eqb_tells}
use Rattle.std.proofs.lemmas.Option.{same_Some}
use Rattle.judy_model.specs.Keys.{word_order}
use Rattle.judy_bits.specs.ByteSets as set
use Rattle.judy_bits.proofs.SetLemmas.{slice_get-rank}
use Rattle.judy_leaf.specs.KeyLists.{keys_of, values_of, shift}
use Rattle.judy_node.specs.Trees.{Pairs, IsMap}
use Rattle.judy_node.proofs.Maps.{map-wider}
use Rattle.judy_change.specs.Removals.{value_in, without}

-- A case by whether two numbers are the same.
pub by_same : {A : Type 0} (P : A → Type 0) (one other : ℕ) (here there : A) → (one ≡ other → P here) → (one ≢ other → P there) → P (cond (eqb one other) here there)
by_same P one other here there same apart = ⊎_elim
    (λ (h : (eqb one other ≡ true) × (one ≡ other)). subst (λ b. P (cond b here there)) (sym h.0) (same h.1))
    (λ (h : (eqb one other ≡ false) × (one ≢ other)). subst (λ b. P (cond b here there)) (sym h.0) (apart h.1))
    (eqb_tells one other)

pub value-same : (pair : ℕ × ℕ) (pairs : Pairs) (key : ℕ) → pair.0 ≡ key → value_in (pair ∷ pairs) key ≡ Some pair.1
value-same pair pairs key same = ap (λ b. cond b (Some pair.1) (value_in pairs key)) (eq-eqb pair.0 key same)

pub value-apart : (pair : ℕ × ℕ) (pairs : Pairs) (key : ℕ) → pair.0 ≢ key → value_in (pair ∷ pairs) key ≡ value_in pairs key
value-apart pair pairs key apart = ap (λ b. cond b (Some pair.1) (value_in pairs key)) (ne_eqb pair.0 key apart)

pub without-same : (pair : ℕ × ℕ) (pairs : Pairs) (key : ℕ) → pair.0 ≡ key → without key (pair ∷ pairs) ≡ without key pairs
without-same pair pairs key same = ap (λ b. cond b (without key pairs) (pair ∷ without key pairs)) (eq-eqb pair.0 key same)

pub without-apart : (pair : ℕ × ℕ) (pairs : Pairs) (key : ℕ) → pair.0 ≢ key → without key (pair ∷ pairs) ≡ pair ∷ without key pairs
without-apart pair pairs key apart = ap (λ b. cond b (without key pairs) (pair ∷ without key pairs)) (ne_eqb pair.0 key apart)

pub same_or : (one other : ℕ) → (one ≡ other) ⊎ (one ≢ other)
same_or one other = ⊎_elim (λ h. inl h.1) (λ h. inr h.1) (eqb_tells one other)

-- One pair with a key's value.
pub first_pair : (pair : ℕ × ℕ) (key value : ℕ) → value_in (pair ∷ []) key ≡ Some value → pair ∷ [] ≡ (key, value) ∷ []
first_pair pair key value some = ⊎_elim
    (λ (same : pair.0 ≡ key). let told = same_Some pair.1 value (sym (value-same pair [] key same) ∙ some) in λ t. (same t, told t) ∷ [])
    (λ (apart : pair.0 ≢ key). let none = sym (value-apart pair [] key apart) ∙ some in cc)
    (same_or pair.0 key)

-- ---- where the key isn't

pub value-below : (words low top key : ℕ) (pairs : Pairs) → key < low → IsMap words low top pairs → value_in pairs key ≡ None
value-below words low top key [] below map = refl
value-below words low top key (pair ∷ pairs) below map =
    let first = map.0 in
    value-apart pair pairs key (λ same. omega arith) ∙ value-below words (pair.0 + 1) top key pairs (omega arith) map.3

pub value-above : (words low top key : ℕ) (pairs : Pairs) → top ≤ key → IsMap words low top pairs → value_in pairs key ≡ None
value-above words low top key [] above map = refl
value-above words low top key (pair ∷ pairs) above map =
    let last = map.1 in
    value-apart pair pairs key (λ same. omega arith) ∙ value-above words (pair.0 + 1) top key pairs above map.3

pub without-absent : (pairs : Pairs) (key : ℕ) → value_in pairs key ≡ None → without key pairs ≡ pairs
without-absent [] key none = refl
without-absent (pair ∷ pairs) key none = ⊎_elim
    (λ (same : pair.0 ≡ key). let some = sym (value-same pair pairs key same) ∙ none in cc)
    (λ (apart : pair.0 ≢ key). without-apart pair pairs key apart ∙ ap (λ rest. pair ∷ rest) (without-absent pairs key (sym (value-apart pair pairs key apart) ∙ none)))
    (same_or pair.0 key)

-- ---- one behind the other, and moved

pub value-front : (one other : Pairs) (key : ℕ) → value_in one key ≡ None → value_in (one ++ other) key ≡ value_in other key
value-front [] other key none = refl
value-front (pair ∷ one) other key none = ⊎_elim
    (λ (same : pair.0 ≡ key). let some = sym (value-same pair one key same) ∙ none in cc)
    (λ (apart : pair.0 ≢ key). value-apart pair (one ++ other) key apart ∙ value-front one other key (sym (value-apart pair one key apart) ∙ none))
    (same_or pair.0 key)

pub value-back : (one other : Pairs) (key : ℕ) → value_in other key ≡ None → value_in (one ++ other) key ≡ value_in one key
value-back [] other key none = none
value-back (pair ∷ one) other key none = ap (λ v. cond (eqb pair.0 key) (Some pair.1) v) (value-back one other key none)

pub without-append : (key : ℕ) (one other : Pairs) → without key (one ++ other) ≡ without key one ++ without key other
without-append key [] other = refl
without-append key (pair ∷ one) other = ⊎_elim
    (λ (same : pair.0 ≡ key). without-same pair (one ++ other) key same ∙ without-append key one other ∙ ap (λ front. front ++ without key other) (sym (without-same pair one key same)))
    (λ (apart : pair.0 ≢ key). without-apart pair (one ++ other) key apart ∙ ap (λ rest. pair ∷ rest) (without-append key one other) ∙
    ap (λ front. front ++ without key other) (sym (without-apart pair one key apart)))
    (same_or pair.0 key)

pub value-shift : (by key : ℕ) (pairs : Pairs) → value_in (shift by pairs) (by + key) ≡ value_in pairs key
value-shift by key [] = refl
value-shift by key (pair ∷ pairs) = ⊎_elim
    (λ (same : pair.0 ≡ key). value-same (by + pair.0, pair.1) (shift by pairs) (by + key) (ap (λ n. by + n) same) ∙ sym (value-same pair pairs key same))
    (λ (apart : pair.0 ≢ key). value-apart (by + pair.0, pair.1) (shift by pairs) (by + key) (λ (same : by + pair.0 ≡ by + key). apart (omega arith)) ∙
    value-shift by key pairs ∙ sym (value-apart pair pairs key apart))
    (same_or pair.0 key)

pub without-shift : (by key : ℕ) (pairs : Pairs) → without (by + key) (shift by pairs) ≡ shift by (without key pairs)
without-shift by key [] = refl
without-shift by key (pair ∷ pairs) = ⊎_elim
    (λ (same : pair.0 ≡ key). without-same (by + pair.0, pair.1) (shift by pairs) (by + key) (ap (λ n. by + n) same) ∙ without-shift by key pairs ∙
    ap (shift by) (sym (without-same pair pairs key same)))
    (λ (apart : pair.0 ≢ key). without-apart (by + pair.0, pair.1) (shift by pairs) (by + key) (λ (same : by + pair.0 ≡ by + key). apart (omega arith)) ∙
    ap (λ rest. (by + pair.0, pair.1) ∷ rest) (without-shift by key pairs) ∙ ap (shift by) (sym (without-apart pair pairs key apart)))
    (same_or pair.0 key)

-- ---- what is left

pub map-without : (words low top key : ℕ) (pairs : Pairs) → IsMap words low top pairs → IsMap words low top (without key pairs)
map-without words low top key [] map = tt
map-without words low top key (pair ∷ pairs) map =
    let rest = map-without words (pair.0 + 1) top key pairs map.3 in
    let first = map.0 in
    by_same (IsMap words low top) pair.0 key (without key pairs) (pair ∷ without key pairs)
    (λ same. map-wider words (pair.0 + 1) top low top (without key pairs) (omega arith) (omega arith) rest)
    (λ apart. (map.0, map.1, map.2, rest))

-- A key that has a value fits.
pub value-fits : (words low top key value : ℕ) (pairs : Pairs) → IsMap words low top pairs → value_in pairs key ≡ Some value → key < top
value-fits words low top key value [] map some = cc
value-fits words low top key value (pair ∷ pairs) map some = ⊎_elim
    (λ (same : pair.0 ≡ key). let last = map.1 in omega arith)
    (λ (apart : pair.0 ≢ key). value-fits words (pair.0 + 1) top key value pairs map.3 (sym (value-apart pair pairs key apart) ∙ some))
    (same_or pair.0 key)

pub length-without : (words low top key value : ℕ) (pairs : Pairs) → IsMap words low top pairs → value_in pairs key ≡ Some value → length (without key pairs) + 1 ≡ length pairs
length-without words low top key value [] map some = cc
length-without words low top key value (pair ∷ pairs) map some = ⊎_elim
    (λ (same : pair.0 ≡ key).
    let none = value-below words (pair.0 + 1) top key pairs (omega arith) map.3 in
    let left = ap length (without-same pair pairs key same ∙ without-absent pairs key none) in
    omega arith)
    (λ (apart : pair.0 ≢ key).
    let rest = length-without words (pair.0 + 1) top key value pairs map.3 (sym (value-apart pair pairs key apart) ∙ some) in
    let left = ap length (without-apart pair pairs key apart) in
    omega arith)
    (same_or pair.0 key)

-- ---- the key at a place

-- The place of a key is where it stands.
pub place_there : (keys : List ℕ) (key at : ℕ) → IsStrictlySortedBy word_order keys → set.place keys key ≡ Some at → slice_get keys at ≡ Some key
place_there keys key at ascending =
    elim (set.has keys key) as (λ b. set.has keys key ≡ b → cond b (Some (set.rank keys key)) None ≡ Some at → slice_get keys at ≡ Some key) [
      | true ↦ λ held found. ap (slice_get keys) (sym (same_Some (set.rank keys key) at found)) ∙ slice_get-rank keys ascending key held
      | false ↦ λ _ none. cc
    ] refl

pub value-at : (words low top key at : ℕ) (pairs : Pairs) → IsMap words low top pairs → slice_get (keys_of pairs) at ≡ Some key → value_in pairs key ≡ Some (get_or (values_of pairs) at 0)
value-at words low top key at [] map there = cc
value-at words low top key zero (pair ∷ pairs) map there = value-same pair pairs key (same_Some pair.0 key there)
value-at words low top key (suc at) (pair ∷ pairs) map there =
    let above = key_above words (pair.0 + 1) top key at pairs map.3 there in
    value-apart pair pairs key (λ same. omega arith) ∙ value-at words (pair.0 + 1) top key at pairs map.3 there
  where
    key_above : (words low top key at : ℕ) (pairs : Pairs) → IsMap words low top pairs → slice_get (keys_of pairs) at ≡ Some key → low ≤ key
    key_above words low top key at [] map there = cc
    key_above words low top key zero (pair ∷ pairs) map there = let same = same_Some pair.0 key there in let first = map.0 in omega arith
    key_above words low top key (suc at) (pair ∷ pairs) map there = let first = map.0 in let rest = key_above words (pair.0 + 1) top key at pairs map.3 there in omega arith

pub remove-without : (words low top key at : ℕ) (pairs : Pairs) → IsMap words low top pairs → slice_get (keys_of pairs) at ≡ Some key → remove pairs at ≡ without key pairs
remove-without words low top key at [] map there = cc
remove-without words low top key zero (pair ∷ pairs) map there =
    let same = same_Some pair.0 key there in
    sym (without-same pair pairs key same ∙ without-absent pairs key (value-below words (pair.0 + 1) top key pairs (omega arith) map.3))
remove-without words low top key (suc at) (pair ∷ pairs) map there =
    ap (λ rest. pair ∷ rest) (remove-without words (pair.0 + 1) top key at pairs map.3 there)
    ∙ sym (without-apart pair pairs key (λ same. let none = value-below words (pair.0 + 1) top key pairs (omega arith) map.3 in
    let some = value-at words (pair.0 + 1) top key at pairs map.3 there in let never = sym some ∙ none in cc))

-- A key without a place isn't there.
pub value-none : (pairs : Pairs) (key : ℕ) → set.place (keys_of pairs) key ≡ None → value_in pairs key ≡ None
value-none pairs key none = by_has pairs key (no_member (keys_of pairs) key none)
  where
    no_member : (keys : List ℕ) (key : ℕ) → set.place keys key ≡ None → set.has keys key ≡ false
    no_member keys key = elim (set.has keys key) as (λ b. cond b (Some (set.rank keys key)) None ≡ None → b ≡ false) [
      | true ↦ λ some. cc
      | false ↦ λ _. refl
    ]

    by_has : (pairs : Pairs) (key : ℕ) → set.has (keys_of pairs) key ≡ false → value_in pairs key ≡ None
    by_has [] key none = refl
    by_has (pair ∷ pairs) key none = elim (eqb pair.0 key) as (λ b. (b || set.has (keys_of pairs) key) ≡ false → cond b (Some pair.1) (value_in pairs key) ≡ None) [
      | true ↦ λ some. cc
      | false ↦ λ other. by_has pairs key other
    ] none
