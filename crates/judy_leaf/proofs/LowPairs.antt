-- Pairs with the lowest bytes of their keys, and how the first of them are put in.
use Rattle.std.proofs.Common.{◌≡◌, ℕ, zero, suc, ◌+◌, ◌%◌, ◌<◌, ◌≤◌, true, false, List, [], ◌∷◌, length, take, get_or, refl, ap, sym, ◌∙◌, arith, is_lt}
use Rattle.std.proofs.Math.Path.{subst₂}
use Rattle.std.specs.List.{insert, AllByRecursion}
use Rattle.std.specs.List.Sorted.{IsStrictlySortedBy}
use Rattle.std.proofs.lemmas.Bool.{false_from_ne_true}
use Rattle.std.proofs.lemmas.List.{length-take-le}
use Rattle.judy_model.specs.Keys.{word_order}
use Rattle.judy_model.proofs.lemmas.maps.Ascending.{all_among}
use Rattle.judy_bits.specs.ByteSets as set
use Rattle.judy_bits.proofs.SetLemmas.{is_below, filter_all, later_above, Among-has}
use Rattle.judy_leaf.specs.KeyLists.{keys_of, low_pairs, with_pair}
use Rattle.judy_leaf.proofs.LeafLists.{length-keys_of}
use Rattle.judy_leaf.proofs.Filled.{insert_last}

pub length-low : (unit : ℕ) (pairs : List (ℕ × ℕ)) → length (low_pairs unit pairs) ≡ length pairs
length-low unit [] = refl
length-low unit (pair ∷ pairs) = ap suc (length-low unit pairs)

pub low_at : (unit : ℕ) (pairs : List (ℕ × ℕ)) (at : ℕ) (d : ℕ × ℕ) → at < length pairs → get_or (low_pairs unit pairs) at d ≡ ((get_or pairs at d).0 % unit, (get_or pairs at d).1)
low_at unit [] at d inside = let never : ⊥ = omega arith in absurd never
low_at unit (pair ∷ pairs) zero d inside = refl
low_at unit (pair ∷ pairs) (suc at) d inside = low_at unit pairs at d (omega arith)

-- ---- the first of ascending pairs

pub keys-take : (pairs : List (ℕ × ℕ)) (at : ℕ) → keys_of (take at pairs) ≡ take at (keys_of pairs)
keys-take pairs zero = refl
keys-take [] (suc at) = refl
keys-take (pair ∷ pairs) (suc at) = ap (λ rest. pair.0 ∷ rest) (keys-take pairs at)

pub key-get : (pairs : List (ℕ × ℕ)) (at : ℕ) (d : ℕ × ℕ) → (get_or pairs at d).0 ≡ get_or (keys_of pairs) at d.0
key-get [] at d = refl
key-get (pair ∷ pairs) zero d = refl
key-get (pair ∷ pairs) (suc at) d = key-get pairs at d

-- What all later words are above, any of them is above.
pub later_at : (x : ℕ) (keys : List ℕ) (at : ℕ) → AllByRecursion (λ y. x < y) keys → at < length keys → x < get_or keys at 0
later_at x [] at later inside = let never : ⊥ = omega arith in absurd never
later_at x (y ∷ keys) zero later inside = later.0
later_at x (y ∷ keys) (suc at) later inside = later_at x keys at later.1 (omega arith)

-- All before a place are below what stands there.
before_below : (keys : List ℕ) (at : ℕ) → IsStrictlySortedBy word_order keys → at < length keys → AllByRecursion (λ key. key < get_or keys at 0) (take at keys)
unfolding IsStrictlySortedBy
before_below [] at ascending inside = let never : ⊥ = omega arith in absurd never
before_below (x ∷ keys) zero ascending inside = tt
before_below (x ∷ keys) (suc at) ascending inside = (later_at x keys at (later_above x keys ascending.0) (omega arith), before_below keys at ascending.1 (omega arith))

passed : (keys : List ℕ) (key : ℕ) → AllByRecursion (λ k. k < key) keys → AllByRecursion (λ k. is_lt (word_order k key) ≡ true) keys
passed [] key all = tt
passed (x ∷ keys) key all = (is_below x key all.0, passed keys key all.1)

module _ (pairs : List (ℕ × ℕ)) (at : ℕ) (ascending : IsStrictlySortedBy word_order (keys_of pairs)) (inside : at < length pairs) where
  abbrev next : ℕ
  next = (get_or pairs at (0, 0)).0

  below_next : AllByRecursion (λ key. key < next) (keys_of (take at pairs))
  below_next =
      let long = length-keys_of pairs in
      subst₂ (λ bound keys. AllByRecursion (λ key. key < bound) keys) (sym (key-get pairs at (0, 0))) (sym (keys-take pairs at)) (before_below (keys_of pairs) at ascending (omega arith))

  pub first_rank : set.rank (keys_of (take at pairs)) (get_or pairs at (0, 0)).0 ≡ at
  first_rank =
      ap length (filter_all (λ member. is_lt (word_order member next)) (keys_of (take at pairs)) (passed (keys_of (take at pairs)) next below_next))
      ∙ length-keys_of (take at pairs) ∙ length-take-le at pairs (omega arith)

  pub first_absent : set.has (keys_of (take at pairs)) (get_or pairs at (0, 0)).0 ≡ false
  first_absent = false_from_ne_true (set.has (keys_of (take at pairs)) next) (λ held.
      let less : next < next = all_among (λ key. key < next) (keys_of (take at pairs)) next below_next (Among-has (keys_of (take at pairs)) next held) in
      let never : ⊥ = omega arith in absurd never)

  -- The next of them put into the first ones.
  pub with_next : with_pair (get_or pairs at (0, 0)).0 (get_or pairs at (0, 0)).1 (take at pairs) ≡ take (at + 1) pairs
  with_next = ap (λ n. insert (take at pairs) n (get_or pairs at (0, 0))) first_rank ∙ insert_last pairs at (0, 0) inside

-- ---- how many ascending numbers there can be

few_between : (low bound : ℕ) (keys : List ℕ) → IsStrictlySortedBy word_order keys → AllByRecursion (λ key. low ≤ key) keys → AllByRecursion (λ key. key < bound) keys →
    low ≤ bound → length keys + low ≤ bound
unfolding IsStrictlySortedBy
few_between low bound [] ascending above below some = omega arith
few_between low bound (x ∷ keys) ascending above below some =
    let first = above.0 in
    let inside = below.0 in
    let rest = few_between (x + 1) bound keys ascending.1 (next_up x keys (later_above x keys ascending.0)) below.1 (omega arith) in
    omega arith
  where
    next_up : (x : ℕ) (keys : List ℕ) → AllByRecursion (λ y. x < y) keys → AllByRecursion (λ y. x + 1 ≤ y) keys
    next_up x [] all = tt
    next_up x (y ∷ keys) all = (let less = all.0 in omega arith, next_up x keys all.1)

-- Ascending numbers below a bound are no more than the bound.
pub few_below : (bound : ℕ) (keys : List ℕ) → IsStrictlySortedBy word_order keys → AllByRecursion (λ key. key < bound) keys → length keys ≤ bound
few_below bound keys ascending below =
    let few = few_between 0 bound keys ascending (from_zero keys) below (omega arith) in
    omega arith
  where
    from_zero : (keys : List ℕ) → AllByRecursion (λ key. 0 ≤ key) keys
    from_zero [] = tt
    from_zero (x ∷ keys) = (omega arith, from_zero keys)
