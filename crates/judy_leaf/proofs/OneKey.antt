-- One key in a word: the word is that key.
use Rattle.std.proofs.Common.{◌≡◌, ◌≢◌, ℕ, zero, suc, ◌+◌, ◌-◌, ◌*◌, ◌/◌, ◌%◌, ◌^◌, ◌<◌, ◌≤◌, cond, nat_lt, lt-ltb, get_or, List, [], ◌∷◌, ◌++◌, length, take, drop, replicate}
use Rattle.std.proofs.Common.{Some, None, refl, ap, sym, ◌∙◌, subst, arith}
use Rattle.std.specs.List.Sorted.{IsStrictlySortedBy}
use Rattle.std.specs.List.{AllByRecursion}
use Rattle.std.proofs.Math.Nat.{pow-zero, pow-suc, pow-le-pow_right, mod-eq_of_lt, div-eq_of_lt, div-lt_iff_lt-mul}
use Rattle.std.proofs.lemmas.Nat.{div-add-mod'}
use Rattle.std.proofs.lemmas.List.Sums.{sum_by-cons}
use Rattle.judy_bits.proofs.SetLemmas.{not_less}
use Rattle.judy_model.specs.Keys.{word_order}
use Rattle.judy_bits.specs.ByteSets as set
use Rattle.judy_leaf.specs.Packing.{digits, keys_in, IsPacked, IsWidth}
use Rattle.judy_leaf.specs.KeyLists.{low_pairs, pairs_of}
use Rattle.judy_leaf.specs.Immediates.{imm_list, IsImm}
use Rattle.judy_leaf.specs.Nearby.{IsNextAt}
use Rattle.judy_leaf.proofs.Digits.{number, number-digits}
use Rattle.judy_leaf.proofs.Placed.{per_pos}
use Rattle.judy_leaf.proofs.WordSteps.{base_pos}
use Rattle.judy_leaf.proofs.Counted.{rank_by_count, place-there, place-none}

nothing_after : (xs : List ℕ) → xs ++ [] ≡ xs
nothing_after [] = refl
nothing_after (x ∷ xs) = ap (λ rest. x ∷ rest) (nothing_after xs)

zeros : (base : ℕ) (some : 0 < base) (count : ℕ) → number base some (replicate count 0) ≡ 0
zeros base some zero = refl
zeros base some (suc count) = ap (λ n. 0 + base * n) (zeros base some count) ∙ omega arith

first_alone : (base : ℕ) (some : 0 < base) (count word rest : ℕ) → 1 ≤ count → word < base ^ count → drop 1 (digits base count word ++ []) ≡ replicate rest 0 →
    take 1 (digits base count word ++ []) ≡ word ∷ []
first_alone base some zero word rest room fits clear = let never : ⊥ = omega arith in absurd never
first_alone base some (suc count) word rest room fits clear =
    let smaller : word / base < base ^ count = (div-lt_iff_lt-mul some).1 (subst (λ bound. word < bound) (pow-suc base count) fits) in
    let above : word / base ≡ 0 = sym (number-digits base some count (word / base) smaller) ∙ ap (number base some) (sym (nothing_after (digits base count (word / base))) ∙ clear) ∙
    zeros base some rest in
    let whole = div-add-mod' word base in
    ap (λ n. n ∷ []) (let e : word % base ≡ word = sym (ap (λ n. n * base + word % base) above ∙ omega arith) ∙ whole in e)

pub one_key : (width count word : ℕ) → count ≡ 1 → IsPacked width count (word ∷ []) → keys_in width count (word ∷ []) ≡ word ∷ []
one_key width count word one packed =
    let is = packed.is_width in
    let alone : IsPacked width 1 (word ∷ []) = subst (λ n. IsPacked width n (word ∷ [])) one packed in
    ap (λ n. keys_in width n (word ∷ [])) one
    ∙ first_alone (256 ^ width) (base_pos width is) (8 / width) word (length (word ∷ []) * (8 / width) - 1) (let some = per_pos width is in omega arith) alone.tight.0 alone.clear

-- ---- what a search finds in it

pub one_rank : (word key : ℕ) → set.rank (word ∷ []) key ≡ cond (nat_lt word key) 1 0
one_rank word key = rank_by_count (word ∷ []) key ∙ sum_by-cons (λ x. cond (nat_lt x key) 1 0) word [] ∙ (let e : cond (nat_lt word key) 1 0 + 0 ≡ cond (nat_lt word key) 1 0 = omega arith in e)

pub one_below : (word key : ℕ) → word < key → set.rank (word ∷ []) key ≡ 1
one_below word key less = one_rank word key ∙ ap (λ b. cond b 1 0) (lt-ltb word key less)

pub one_not_below : (word key : ℕ) → key ≤ word → set.rank (word ∷ []) key ≡ 0
one_not_below word key most = one_rank word key ∙ ap (λ b. cond b 1 0) (not_less word key most)

module _ (word key : ℕ) (ascending : IsStrictlySortedBy word_order (word ∷ [])) where
  pub one_found : word ≡ key → Some 0 ≡ set.place (word ∷ []) key
  one_found same = place-there (word ∷ []) ascending key 0 (sym (one_not_below word key (omega arith))) (omega arith) same

  pub one_missed : word ≢ key → None ≡ set.place (word ∷ []) key
  one_missed apart = place-none (word ∷ []) ascending key (set.rank (word ∷ []) key) refl (λ inside same. apart (there (set.rank (word ∷ []) key) inside same))
    where
      there : (at : ℕ) → at < 1 → get_or (word ∷ []) at 0 ≡ key → word ≡ key
      there zero inside same = same
      there (suc at) inside same = let never : ⊥ = omega arith in absurd never

pub one_next : (word number : ℕ) → number ≤ word → IsNextAt (word ∷ []) number (0, word)
one_next word number most = record { place = sym (one_not_below word number most); key = record { inside = omega arith; there = refl } }

-- ---- an immediate of one key

digits_none : (base : ℕ) (some : 0 < base) (count : ℕ) → digits base count 0 ≡ replicate count 0
digits_none base some zero = refl
digits_none base some (suc count) =
    ap (λ digit. digit ∷ digits base count (0 / base)) (mod-eq_of_lt some)
    ∙ ap (λ rest. 0 ∷ digits base count rest) (div-eq_of_lt some)
    ∙ ap (λ rest. 0 ∷ rest) (digits_none base some count)

digits_alone : (base word per : ℕ) → 1 ≤ per → word < base → drop 1 (digits base per word ++ []) ≡ replicate (1 * per - 1) 0
digits_alone base word zero some fits = let never : ⊥ = omega arith in absurd never
digits_alone base word (suc count) some fits =
    nothing_after (digits base count (word / base))
    ∙ ap (digits base count) (div-eq_of_lt fits)
    ∙ digits_none base (omega arith) count
    ∙ ap (λ n. replicate n 0) (let e : count ≡ 1 * suc count - 1 = omega arith in e)

one_packed : (width key : ℕ) → IsWidth width → key < 256 ^ width → IsPacked width 1 (key ∷ [])
one_packed width key is fits =
    let base = 256 ^ width in
    let some = per_pos width is in
    let once : base ^ 1 ≡ base = pow-suc base 0 ∙ ap (λ n. n * base) (pow-zero base) ∙ omega arith in
    let wide = pow-le-pow_right {n = base} (base_pos width is) some in
    let tight : key < base ^ (8 / width) = omega arith in
    record {
      is_width = is;
      enough = omega arith;
      clear = digits_alone base key (8 / width) some fits;
      tight = (tight, tt);
    }

pub one_imm : (words width key : ℕ) → words ≤ 1 → IsWidth width → key < 256 ^ width → IsImm words width 1 key
unfolding IsStrictlySortedBy
one_imm words width key one is fits =
    let packed = one_packed width key is fits in
    record {
      one = one;
      few = λ _. omega arith;
      packed = packed;
      ascending = subst (IsStrictlySortedBy word_order) (sym (one_key width 1 key refl packed)) (tt, tt);
    }

pub one_list : (words width key value : ℕ) → words ≤ 1 → (words ≡ 0 → value ≡ 0) → IsWidth width → key < 256 ^ width →
    imm_list words width 1 key value ≡ record { width = width; pairs = (key, value) ∷ [] }
one_list zero width key value one none is fits =
    ap (λ keys. record { width = width; pairs = pairs_of keys [] }) (one_key width 1 key refl (one_packed width key is fits))
    ∙ ap (λ (v : ℕ). record { width = width; pairs = (key, v) ∷ [] }) (sym (none refl))
one_list (suc zero) width key value one none is fits =
    ap (λ keys. record { width = width; pairs = pairs_of keys (value ∷ []) }) (one_key width 1 key refl (one_packed width key is fits))
one_list (suc (suc words)) width key value one none is fits = let never : ⊥ = omega arith in absurd never

pub one_low : (unit key value : ℕ) (pairs : List (ℕ × ℕ)) → length pairs ≡ 1 → key ≡ (get_or pairs 0 (0, 0)).0 % unit → value ≡ (get_or pairs 0 (0, 0)).1 → (key, value) ∷ [] ≡ low_pairs unit pairs
one_low unit key value [] long is same = let never : ⊥ = omega arith in absurd never
one_low unit key value (pair ∷ []) long is same = λ t. (is t, same t) ∷ []
one_low unit key value (pair ∷ other ∷ pairs) long is same = let never : ⊥ = omega arith in absurd never

pub first_none : (pairs : List (ℕ × ℕ)) → length pairs ≡ 1 → AllByRecursion (λ pair. pair.1 ≡ 0) pairs → (get_or pairs 0 (0, 0)).1 ≡ 0
first_none [] long none = let never : ⊥ = omega arith in absurd never
first_none (pair ∷ pairs) long none = none.0
