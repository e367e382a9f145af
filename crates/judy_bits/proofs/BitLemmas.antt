-- Bits of words, and how many of them are 1.
use Rattle.std.proofs.Common.{◌≡◌, ℕ, zero, suc, ◌+◌, ◌-◌, ◌*◌, ◌/◌, ◌%◌, ◌^◌, ◌<◌, ◌≤◌, ◌==◌, Bool, true, false, cond, List, [], ◌∷◌, length, slice_index, sym, refl, ap, ◌∙◌}
use Rattle.std.proofs.Common.{subst, arith, ⊎_elim, bit_and}
use Rattle.std.specs.Int.{w64, bit_at, trailing_zeros, leading_zeros}
use Rattle.std.specs.Int.Count.{ones, ones_cat, ones-ones, ones-le}
use Rattle.std.proofs.lemmas.List.{length-append}
use Rattle.std.proofs.Math.Nat.{mod-eq_of_lt, div-eq_of_lt-le, pow-suc}
use Rattle.std.proofs.Math.Pow.{pow_mono}
use Rattle.std.proofs.lemmas.Nat.{and_le_l, mod-pow-add, mod_below, pow_pos, leading_top}
use Rattle.std.proofs.lemmas.Nat.Bits.{bit_at-lt, bit_at_above, bit_at_and, bit_at_not, bit_at_ones, bit_at_ones_above, bit_at-trailing_zeros, bit_at-zero}
use Rattle.std.proofs.lemmas.Bool.{cases_lt}
use Rattle.judy_bits.specs.BitWords.{is_set, IsLowestFrom, NoneFrom, IsHighestBelow, NoneBelow}
use Rattle.judy_bits.proofs.Ranges.{chosen, chosen_split}

-- ---- how many bits are 1

-- No bit of 0 is 1.
pub ones_none : ones 0 ≡ 0
ones_none = let most = ones-le 0 0 (omega arith) in omega arith

ones_bit : (bit : ℕ) → bit < 2 → ones bit ≡ cond (bit == 1) 1 0
ones_bit zero small = ones_none
ones_bit (suc zero) small = ones-ones 1
ones_bit (suc (suc n)) small = let never : ⊥ = omega arith in absurd never

-- The bits that are 1 among the lowest ones of a number are those of its rest.
pub length-chosen_bits : (word count : ℕ) → length (chosen (λ at. bit_at word at == 1) 0 count) ≡ ones (word % 2 ^ count)
length-chosen_bits word zero = sym (ap ones (let e : word % 1 ≡ 0 = omega arith in e) ∙ ones_none)
length-chosen_bits word (suc count) =
    let p : ℕ → Bool = λ at. bit_at word at == 1 in
    let on : suc count ≡ count + 1 = omega arith in
    let one : 1 + count ≡ suc count = omega arith in
    let last : length (chosen p (0 + count) 1) ≡ ones (bit_at word count) =
    ap (λ at. length (chosen p at 1)) (let e : 0 + count ≡ count = omega arith in e)
    ∙ elim (p count) as (λ b. length (cond b (count ∷ []) []) ≡ cond b 1 0) [ true ↦ refl | false ↦ refl ]
    ∙ sym (ones_bit (bit_at word count) (bit_at-lt word count)) in
    ap (λ n. length (chosen p 0 n)) on ∙ ap length (chosen_split p 0 count 1) ∙ length-append (chosen p 0 count) (chosen p (0 + count) 1)
    ∙ (λ t. length-chosen_bits word count t + last t)
    ∙ (let turned : ones (word % 2 ^ count) + ones (bit_at word count) ≡ ones (bit_at word count) + ones (word % 2 ^ count) = omega arith in turned)
    ∙ sym (ones_cat count (bit_at word count) (word % 2 ^ count) (mod_below word (2 ^ count) (pow_pos count)))
    ∙ ap ones (sym (mod-pow-add word 1 count)) ∙ ap (λ n. ones (word % 2 ^ n)) one

-- A word of 64 bits has all of them among its lowest 64.
pub ones_word : (word : ℕ) → word < 2 ^ 64 → ones (word % 2 ^ 64) ≡ ones word
ones_word word fits = ap ones (mod-eq_of_lt fits)

-- ---- the lowest and the highest 1

module _ (word count : ℕ) (within : count ≤ 64) (fits : word < 2 ^ 64) where
  mask_fits : 2 ^ count - 1 < 2 ^ 64
  mask_fits = let most = pow_mono within in omega (arith, pow_pos count)

  -- The bits of a word and a mask of lowest ones.
  masked_low : (at : ℕ) → at < count → bit_at (bit_and word (2 ^ count - 1)) at ≡ bit_at word at
  masked_low at below = bit_at_and word (2 ^ count - 1) at ∙ (let mask = bit_at_ones count at below in let bit = bit_at-lt word at in omega arith)

  masked_low_above : (at : ℕ) → count ≤ at → bit_at (bit_and word (2 ^ count - 1)) at ≡ 0
  masked_low_above at above = bit_at_and word (2 ^ count - 1) at ∙ (let mask = bit_at_ones_above count at above in omega arith)

  -- The bits of a word and the other mask.
  masked_high : (at : ℕ) → count ≤ at → at < 64 → bit_at (bit_and word (2 ^ 64 - 1 - (2 ^ count - 1))) at ≡ bit_at word at
  masked_high at above inside =
      bit_at_and word (2 ^ 64 - 1 - (2 ^ count - 1)) at
      ∙ (let mask = bit_at_not w64 (2 ^ count - 1) at mask_fits inside in let none = bit_at_ones_above count at above in let bit = bit_at-lt word at in omega arith)

  masked_high_below : (at : ℕ) → at < count → at < 64 → bit_at (bit_and word (2 ^ 64 - 1 - (2 ^ count - 1))) at ≡ 0
  masked_high_below at below inside =
      bit_at_and word (2 ^ 64 - 1 - (2 ^ count - 1)) at
      ∙ (let mask = bit_at_not w64 (2 ^ count - 1) at mask_fits inside in let one = bit_at_ones count at below in omega arith)

  pub none_from : bit_and word (2 ^ 64 - 1 - (2 ^ count - 1)) ≡ 0 → NoneFrom word count
  none_from zero_rest = λ at above inside. sym (masked_high at above inside) ∙ ap (λ n. bit_at n at) zero_rest ∙ bit_at-zero at

  pub lowest_from_trailing : 0 < bit_and word (2 ^ 64 - 1 - (2 ^ count - 1)) → IsLowestFrom word count (trailing_zeros w64 (bit_and word (2 ^ 64 - 1 - (2 ^ count - 1))))
  lowest_from_trailing some =
      let rest = bit_and word (2 ^ 64 - 1 - (2 ^ count - 1)) in
      let small : rest < 2 ^ 64 = let most = and_le_l word (2 ^ 64 - 1 - (2 ^ count - 1)) in omega arith in
      let found = bit_at-trailing_zeros w64 rest some small in
      let place = trailing_zeros w64 rest in
      let inside : place < 64 = found.0 in
      let above : count ≤ place = ⊎_elim
      (λ below. let none = masked_high_below place below inside in let one = found.1 in absurd (let no_way : ⊥ = omega arith in no_way))
      (λ above. above)
      (cases_lt place count) in
      record {
        inside = inside;
        not_before = above;
        one = sym (masked_high place above inside) ∙ found.1;
        lowest = λ at from before. sym (masked_high at from (omega arith)) ∙ found.2 at before;
      }

  pub none_below : bit_and word (2 ^ count - 1) ≡ 0 → NoneBelow word count
  none_below zero_rest = λ at below. sym (masked_low at below) ∙ ap (λ n. bit_at n at) zero_rest ∙ bit_at-zero at

  pub highest_below_leading : 0 < bit_and word (2 ^ count - 1) → IsHighestBelow word count (63 - leading_zeros w64 (bit_and word (2 ^ count - 1)))
  highest_below_leading some =
      let rest = bit_and word (2 ^ count - 1) in
      let small : rest < 2 ^ 64 = let most = and_le_l word (2 ^ count - 1) in omega arith in
      let top = leading_top 64 rest some small in
      let place = top.0 in
      let is : 63 - leading_zeros w64 rest ≡ place = let sum = top.1 in omega arith in
      let one : bit_at rest place ≡ 1 = top_bit rest place top.2 top.3 in
      let inside : place < count = ⊎_elim
      (λ below. below)
      (λ above. let none = masked_low_above place above in absurd (let no_way : ⊥ = omega arith in no_way))
      (cases_lt place count) in
      subst (λ at. IsHighestBelow word count at) (sym is) (record {
        inside = inside;
        one = sym (masked_low place inside) ∙ one;
        highest = λ at after below. sym (masked_low at below) ∙ bit_at_above rest (suc place) at top.3 after;
      })
    where
      top_bit : (number place : ℕ) → 2 ^ place ≤ number → number < 2 ^ suc place → bit_at number place ≡ 1
      top_bit number place low high =
          let whole : number / 2 ^ place ≡ 1 = div-eq_of_lt-le (2 ^ place) (omega arith) (let twice = pow-suc 2 place in omega arith) in
          ap (λ n. n % 2) whole

-- ---- four words

-- The bit of a byte is a bit of its word.
pub is_set-word : (words : List ℕ) (word place : ℕ) → place < 64 → is_set words (64 * word + place) ≡ (bit_at (slice_index words word) place == 1)
is_set-word words word place inside =
    let which : (64 * word + place) / 64 ≡ word = omega arith in
    let where_in : (64 * word + place) % 64 ≡ place = omega arith in
    λ t. bit_at (slice_index words (which t)) (where_in t) == 1

pub set_from_bit : (words : List ℕ) (word place : ℕ) → place < 64 → bit_at (slice_index words word) place ≡ 1 → is_set words (64 * word + place) ≡ true
set_from_bit words word place inside one = is_set-word words word place inside ∙ ap (λ bit. bit == 1) one

pub unset_from_bit : (words : List ℕ) (word place : ℕ) → place < 64 → bit_at (slice_index words word) place ≡ 0 → is_set words (64 * word + place) ≡ false
unset_from_bit words word place inside none = is_set-word words word place inside ∙ ap (λ bit. bit == 1) none

-- Tests that agree place by place in two ranges choose as many.
length-chosen_moved : (p q : ℕ → Bool) (from to count : ℕ) → ((at : ℕ) → at < count → p (from + at) ≡ q (to + at)) → length (chosen p from count) ≡ length (chosen q to count)
length-chosen_moved p q from to zero agree = refl
length-chosen_moved p q from to (suc count) agree =
    let start : p from ≡ q to = ap p (let e : from ≡ from + 0 = omega arith in e) ∙ agree 0 (omega arith) ∙ ap q (let e : to + 0 ≡ to = omega arith in e) in
    let rest = length-chosen_moved p q (from + 1) (to + 1) count (λ at below.
    ap p (let e : from + 1 + at ≡ from + suc at = omega arith in e) ∙ agree (suc at) (omega arith) ∙ ap q (let e : to + suc at ≡ to + 1 + at = omega arith in e)) in
    counted (p from) from (chosen p (from + 1) count) ∙ (λ t. cond (start t) 1 0 + rest t) ∙ sym (counted (q to) to (chosen q (to + 1) count))
  where
    counted : (b : Bool) (x : ℕ) (xs : List ℕ) → length (cond b (x ∷ xs) xs) ≡ cond b 1 0 + length xs
    counted true x xs = omega arith
    counted false x xs = omega arith

-- How many bits are 1 from the first of a word on.
pub length-chosen_word : (words : List ℕ) (word count : ℕ) → count ≤ 64 → length (chosen (is_set words) (64 * word) count) ≡ ones (slice_index words word % 2 ^ count)
length-chosen_word words word count within =
    length-chosen_moved (is_set words) (λ at. bit_at (slice_index words word) at == 1) (64 * word) 0 count
    (λ at below. is_set-word words word at (omega arith) ∙ ap (λ n. bit_at (slice_index words word) n == 1) (let e : at ≡ 0 + at = omega arith in e))
    ∙ length-chosen_bits (slice_index words word) count

-- How many are below a place in a word.
pub length-chosen_to : (words : List ℕ) (word count : ℕ) → count ≤ 64 → length (chosen (is_set words) 0 (64 * word + count)) ≡
    length (chosen (is_set words) 0 (64 * word)) + ones (slice_index words word % 2 ^ count)
length-chosen_to words word count within =
    ap length (chosen_split (is_set words) 0 (64 * word) count) ∙ length-append (chosen (is_set words) 0 (64 * word)) (chosen (is_set words) (0 + 64 * word) count)
    ∙ ap (λ n. length (chosen (is_set words) 0 (64 * word)) + n) (ap (λ at. length (chosen (is_set words) at count)) (let e : 0 + 64 * word ≡ 64 * word = omega arith in e) ∙
    length-chosen_word words word count within)
