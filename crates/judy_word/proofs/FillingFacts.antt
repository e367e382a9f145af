-- How many keys there are when pairs were put in, and what some of them leave when all are put in behind them.
use Rattle.std.proofs.Common.{◌≡◌, ◌≢◌, ℕ, zero, suc, ◌+◌, ◌≤◌, ◌<◌, ◌||◌, Bool, true, false, cond, [], ◌∷◌, ◌++◌, length, take, drop, get_or, eqb, is_some, refl, sym, ap, subst}
use Rattle.std.proofs.Common.{◌∙◌, ⊎_elim, arith, ne_eqb, eq-eqb}
use Rattle.std.specs.Cmp.{nat_cmp_total}
use Rattle.std.specs.FinMap.{FinMap, contains_key, len, len-insert, nat_cmp-IsAntisymmetric}
use Rattle.std.proofs.lemmas.Bool.{cond-true, cond-false}
use Rattle.std.proofs.lemmas.List.{take-append-drop}
use Rattle.judy_model.specs.Keys.{word_order}
use Rattle.judy_model.specs.Arrays.{ArrayOf, with_map}
use Rattle.judy_model.proofs.lemmas.maps.ChangesLemmas.{get-write_same, get-write_other}
use Rattle.judy_bits.specs.ByteSets.{has}
use Rattle.judy_leaf.specs.KeyLists.{keys_of}
use Rattle.judy_node.specs.Trees.{Pairs, IsMap}
use Rattle.judy_word.specs.Held.{with_new, with_all}
use Rattle.judy_word.proofs.MapFacts.{same_or}
use Rattle.judy_word.proofs.InsertionFacts.{new_present, new_absent}
use Rattle.judy_word.proofs.FrontFacts.{with_all-append}

-- ---- one pair

module _ (map : FinMap word_order ℕ) (key value : ℕ) where
  -- Its key is there,
  new_there : contains_key (with_new map key value) key ≡ true
  new_there = elim (contains_key map key) as (λ b. contains_key map key ≡ b → contains_key (with_new map key value) key ≡ true) [
    | true ↦ λ held. ap (λ (m : FinMap word_order ℕ). contains_key m key) (new_present map key value held) ∙ held
    | false ↦ λ absent. ap (λ (m : FinMap word_order ℕ). contains_key m key) (new_absent map key value absent) ∙ ap is_some (get-write_same nat_cmp_total map key value)
  ] refl

  -- and any other where it was.
  new_other : (other : ℕ) → key ≢ other → contains_key (with_new map key value) other ≡ contains_key map other
  new_other other apart = elim (contains_key map key) as (λ b. contains_key map key ≡ b → contains_key (with_new map key value) other ≡ contains_key map other) [
    | true ↦ λ held. ap (λ (m : FinMap word_order ℕ). contains_key m other) (new_present map key value held)
    | false ↦ λ absent.
        ap (λ (m : FinMap word_order ℕ). contains_key m other) (new_absent map key value absent)
        ∙ ap is_some (get-write_other nat_cmp_total map key nat_cmp-IsAntisymmetric value other apart)
  ] refl

  -- There is one more where it was absent.
  pub len-new : len (with_new map key value) ≡ cond (contains_key map key) (len map) (len map + 1)
  len-new = elim (contains_key map key) as (λ b. contains_key map key ≡ b → len (with_new map key value) ≡ cond (contains_key map key) (len map) (len map + 1)) [
    | true ↦ λ held. ap len (new_present map key value held) ∙ sym (cond-true (contains_key map key) (len map) (len map + 1) held)
    | false ↦ λ absent. ap len (new_absent map key value absent) ∙ len-insert nat_cmp_total map key value
  ] refl

  up_by : (there : Bool) (n : ℕ) → n ≤ cond there n (n + 1)
  up_by true n = omega arith
  up_by false n = omega arith

  -- So there are no fewer.
  pub new_up : len map ≤ len (with_new map key value)
  new_up = subst (λ n. len map ≤ n) (sym len-new) (up_by (contains_key map key) (len map))

or_false : (b : Bool) → (b || false) ≡ b
or_false true = refl
or_false false = refl

or_true : (b : Bool) → (b || true) ≡ true
or_true true = refl
or_true false = refl

or_assoc : (a b c : Bool) → ((a || b) || c) ≡ (a || (b || c))
or_assoc true b c = refl
or_assoc false b c = refl

contains-new : (map : FinMap word_order ℕ) (key value other : ℕ) → contains_key (with_new map key value) other ≡ (contains_key map other || eqb key other)
contains-new map key value other = ⊎_elim
    (λ (same : key ≡ other).
    subst (λ (at : ℕ). contains_key (with_new map key value) at ≡ (contains_key map at || eqb key at)) same
    (new_there map key value ∙ sym (ap (λ b. contains_key map key || b) (eq-eqb key key refl) ∙ or_true (contains_key map key))))
    (λ (apart : key ≢ other).
    new_other map key value other apart ∙ sym (ap (λ b. contains_key map other || b) (ne_eqb key other apart) ∙ or_false (contains_key map other)))
    (same_or key other)

-- ---- many pairs

-- A key is there where it was, or is one of theirs.
pub contains-all : (map : FinMap word_order ℕ) (pairs : Pairs) (key : ℕ) → contains_key (with_all map pairs) key ≡ (contains_key map key || has (keys_of pairs) key)
contains-all map [] key = sym (or_false (contains_key map key))
contains-all map (pair ∷ pairs) key =
    contains-all (with_new map pair.0 pair.1) pairs key
    ∙ ap (λ b. b || has (keys_of pairs) key) (contains-new map pair.0 pair.1 key)
    ∙ or_assoc (contains_key map key) (eqb pair.0 key) (has (keys_of pairs) key)

-- There are no fewer.
pub all_up : (map : FinMap word_order ℕ) (pairs : Pairs) → len map ≤ len (with_all map pairs)
all_up map [] = omega arith
all_up map (pair ∷ pairs) =
    let one = new_up map pair.0 pair.1 in
    let more = all_up (with_new map pair.0 pair.1) pairs in
    omega (arith, one, more)

-- ---- the first of sorted pairs

least_at : (words low top at : ℕ) (pairs : Pairs) (d : ℕ × ℕ) → IsMap words low top pairs → at < length pairs → low ≤ (get_or pairs at d).0
least_at words low top at [] d map within = absurd (omega (arith, within))
least_at words low top zero (pair ∷ pairs) d map within = map.0
least_at words low top (suc at) (pair ∷ pairs) d map within =
    let first = map.0 in
    let rest = least_at words (pair.0 + 1) top at pairs d map.3 (omega (arith, within)) in
    omega (arith, first, rest)

-- No pair before it has its key.
none_before : (words low top at : ℕ) (pairs : Pairs) (d : ℕ × ℕ) → IsMap words low top pairs → at < length pairs → has (keys_of (take at pairs)) (get_or pairs at d).0 ≡ false
none_before words low top at [] d map within = absurd (omega (arith, within))
none_before words low top zero (pair ∷ pairs) d map within = refl
none_before words low top (suc at) (pair ∷ pairs) d map within =
    let least = least_at words (pair.0 + 1) top at pairs d map.3 (omega (arith, within)) in
    ap (λ b. b || has (keys_of (take at pairs)) (get_or pairs at d).0) (ne_eqb pair.0 (get_or pairs at d).0 (λ same. omega (arith, same, least)))
    ∙ none_before words (pair.0 + 1) top at pairs d map.3 (omega (arith, within))

-- One more of them.
take_one : (at : ℕ) (pairs : Pairs) (d : ℕ × ℕ) → at < length pairs → take (suc at) pairs ≡ take at pairs ++ get_or pairs at d ∷ []
take_one at [] d within = absurd (omega (arith, within))
take_one zero (pair ∷ pairs) d within = refl
take_one (suc at) (pair ∷ pairs) d within = ap (λ rest. pair ∷ rest) (take_one at pairs d (omega (arith, within)))

has_one : (at : ℕ) (pairs : Pairs) (d : ℕ × ℕ) (key : ℕ) → at < length pairs → has (keys_of (take (suc at) pairs)) key ≡ (has (keys_of (take at pairs)) key || eqb (get_or pairs at d).0 key)
has_one at [] d key within = absurd (omega (arith, within))
has_one zero (pair ∷ pairs) d key within = or_false (eqb pair.0 key)
has_one (suc at) (pair ∷ pairs) d key within =
    ap (λ b. eqb pair.0 key || b) (has_one at pairs d key (omega (arith, within)))
    ∙ sym (or_assoc (eqb pair.0 key) (has (keys_of (take at pairs)) key) (eqb (get_or pairs at d).0 key))

-- A key that none of them has, nor the next.
pub none_yet : (at : ℕ) (pairs : Pairs) (d : ℕ × ℕ) (key : ℕ) → at < length pairs → has (keys_of (take at pairs)) key ≡ false → (get_or pairs at d).0 ≢ key →
    has (keys_of (take (at + 1) pairs)) key ≡ false
none_yet at pairs d key within none apart =
    ap (λ (n : ℕ). has (keys_of (take n pairs)) key) (let e : at + 1 ≡ suc at = omega arith in e)
    ∙ has_one at pairs d key within
    ∙ ap (λ b. b || eqb (get_or pairs at d).0 key) none
    ∙ ne_eqb (get_or pairs at d).0 key apart

-- A key that one of them has.
pub found_one : (at : ℕ) (pairs : Pairs) (d : ℕ × ℕ) (key : ℕ) → at < length pairs → (get_or pairs at d).0 ≡ key → has (keys_of pairs) key ≡ true
found_one at [] d key within same = absurd (omega (arith, within))
found_one zero (pair ∷ pairs) d key within same = ap (λ b. b || has (keys_of pairs) key) (eq-eqb pair.0 key same)
found_one (suc at) (pair ∷ pairs) d key within same =
    ap (λ b. eqb pair.0 key || b) (found_one at pairs d key (omega (arith, within)) same) ∙ or_true (eqb pair.0 key)

-- It adds a key where the map had none such.
len-front : (words low top at : ℕ) (map : FinMap word_order ℕ) (pairs : Pairs) (d : ℕ × ℕ) → IsMap words low top pairs → at < length pairs
    → len (with_all map (take (at + 1) pairs)) ≡ cond (contains_key map (get_or pairs at d).0) (len (with_all map (take at pairs))) (len (with_all map (take at pairs)) + 1)
len-front words low top at map pairs d is within =
    let pair : ℕ × ℕ = get_or pairs at d in
    let front : FinMap word_order ℕ = with_all map (take at pairs) in
    ap (λ (ps : Pairs). len (with_all map ps)) (ap (λ (n : ℕ). take n pairs) (let e : at + 1 ≡ suc at = omega arith in e) ∙ take_one at pairs d within)
    ∙ ap len (with_all-append map (take at pairs) (pair ∷ []))
    ∙ len-new front pair.0 pair.1
    ∙ ap (λ (there : Bool). cond there (len front) (len front + 1))
    (contains-all map (take at pairs) pair.0
    ∙ ap (λ b. contains_key map pair.0 || b) (none_before words low top at pairs d is within)
    ∙ or_false (contains_key map pair.0))

module _ (words low top at : ℕ) (map : FinMap word_order ℕ) (pairs : Pairs) (d : ℕ × ℕ) (is : IsMap words low top pairs) (within : at < length pairs) where
  pub front_there : contains_key map (get_or pairs at d).0 ≡ true → len (with_all map (take (at + 1) pairs)) ≡ len (with_all map (take at pairs))
  front_there there =
      len-front words low top at map pairs d is within
      ∙ cond-true (contains_key map (get_or pairs at d).0) (len (with_all map (take at pairs))) (len (with_all map (take at pairs)) + 1) there

  pub front_absent : contains_key map (get_or pairs at d).0 ≡ false → len (with_all map (take (at + 1) pairs)) ≡ len (with_all map (take at pairs)) + 1
  front_absent absent =
      len-front words low top at map pairs d is within
      ∙ cond-false (contains_key map (get_or pairs at d).0) (len (with_all map (take at pairs))) (len (with_all map (take at pairs)) + 1) absent

-- The others leave no fewer.
pub front_up : (n : ℕ) (map : FinMap word_order ℕ) (pairs : Pairs) → len (with_all map (take n pairs)) ≤ len (with_all map pairs)
front_up n map pairs =
    subst (λ (ps : Pairs). len (with_all map (take n pairs)) ≤ len (with_all map ps)) (take-append-drop n pairs)
    (subst (λ (m : FinMap word_order ℕ). len (with_all map (take n pairs)) ≤ len m) (sym (with_all-append map (take n pairs) (drop n pairs))) (all_up (with_all map (take n pairs)) (drop n pairs)))

-- ---- some of them, and then all

abbrev AreThere : FinMap word_order ℕ → Pairs → Type 0
AreThere map [] = Unit {0}
AreThere map (pair ∷ pairs) = (contains_key map pair.0 ≡ true) × AreThere map pairs

are_there : (map : FinMap word_order ℕ) (pairs : Pairs) → AreThere (with_all map pairs) pairs
are_there map [] = tt
are_there map (pair ∷ pairs) = (
  contains-all (with_new map pair.0 pair.1) pairs pair.0 ∙ ap (λ b. b || has (keys_of pairs) pair.0) (new_there map pair.0 pair.1),
  are_there (with_new map pair.0 pair.1) pairs,
)

none_new : (map : FinMap word_order ℕ) (pairs : Pairs) → AreThere map pairs → with_all map pairs ≡ map
none_new map [] there = refl
none_new map (pair ∷ pairs) there = ap (λ (m : FinMap word_order ℕ). with_all m pairs) (new_present map pair.0 pair.1 there.0) ∙ none_new map pairs there.1

-- All of them leave the same where the first were put in before.
pub all_after : (n : ℕ) (map : FinMap word_order ℕ) (pairs : Pairs) → with_all (with_all map (take n pairs)) pairs ≡ with_all map pairs
all_after n map pairs =
    let front : Pairs = take n pairs in
    let rest : Pairs = drop n pairs in
    let parts : front ++ rest ≡ pairs = take-append-drop n pairs in
    let begun : FinMap word_order ℕ = with_all map front in
    ap (with_all begun) (sym parts)
    ∙ with_all-append begun front rest
    ∙ ap (λ (m : FinMap word_order ℕ). with_all m rest) (none_new begun front (are_there map front))
    ∙ sym (with_all-append map front rest)
    ∙ ap (with_all map) parts

pub array_after : (n : ℕ) (old new : ArrayOf word_order) (pairs : Pairs) → new ≡ with_map old (with_all old.map (take n pairs)) →
    with_map new (with_all new.map pairs) ≡ with_map old (with_all old.map pairs)
array_after n old new pairs is = ap (λ (a : ArrayOf word_order). with_map a (with_all a.map pairs)) is ∙ ap (with_map old) (all_after n old.map pairs)

-- ---- one key more

module _ (map : FinMap word_order ℕ) (key value limit : ℕ) where
  -- Where there are too many without it, there are with it.
  pub past_with : limit < len map → limit < len (with_new map key value)
  past_with past = let up = new_up map key value in omega (arith, past, up)

  -- Where there are as many as the limit and it is absent, there are too many with it.
  pub full_with : contains_key map key ≡ false → 0 + len map ≡ limit → limit < len (with_new map key value)
  full_with absent full =
      let more : len (with_new map key value) ≡ len map + 1 = len-new map key value ∙ cond-false (contains_key map key) (len map) (len map + 1) absent in
      omega (arith, full, more)

  -- Where there is room for one more, there is for it,
  pub room_with : (room : ℕ) → 1 ≤ room → room + len map ≡ limit → len (with_new map key value) ≤ limit
  room_with room some left = fits (contains_key map key) (len-new map key value)
    where
      fits : (there : Bool) → len (with_new map key value) ≡ cond there (len map) (len map + 1) → len (with_new map key value) ≤ limit
      fits true same = omega (arith, same, some, left)
      fits false same = omega (arith, same, some, left)
