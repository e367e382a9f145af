-- The lowest bit of a word is taken away.
use Rattle.std.proofs.Common.{◌≡◌, ℕ, suc, ◌+◌, ◌-◌, ◌*◌, ◌/◌, ◌%◌, ◌^◌, ◌<◌, ◌≤◌, false, List, slice_index, Some, sym, refl, ap, ◌∙◌, arith, ⊎_elim, bit_and}
use Rattle.std.specs.Int.{w64, bit_at, trailing_zeros}
use Rattle.std.proofs.lemmas.Bool.{cases_lt}
use Rattle.std.proofs.lemmas.Nat.{pow_pos, mod_below, and_le_l}
use Rattle.std.proofs.lemmas.Nat.Bits.{bit_at-lt, bit_at_and, bit_at_not, bit_at_ones, bit_at_ones_above, bit_at_cat_low, bit_at_cat_high, bit_at-pow_same, bit_at-pow_other}
use Rattle.std.proofs.lemmas.Nat.Bits.{bit_at-trailing_zeros, bit_at-zero, same_from_bits_below}
use Rattle.std.proofs.lemmas.Option.{none-some}
use Rattle.std.proofs.Math.Nat.{pow-suc, mod-eq_of_lt}
use Rattle.std.proofs.Math.Pow.{pow_mono}
use Rattle.judy_bits.specs.ByteSets.{next_from}
use Rattle.judy_bits.specs.BitWords.{is_set, members_of}
use Rattle.judy_bits.proofs.BitLemmas.{unset_from_bit}
use Rattle.judy_bits.proofs.MemberLemmas.{next_in_word, next_in_none}
use Rattle.judy_leaf.specs.NextBits.{AreLeft}

-- ---- one word

module _ (n t : ℕ) (one : bit_at n t ≡ 1) (none : (i : ℕ) → i < t → bit_at n i ≡ 0) where
  -- Its lowest bits are that one alone.
  lowest_part : n % 2 ^ suc t ≡ 2 ^ t
  lowest_part =
      let pos = pow_pos (suc t) in
      let whole : n ≡ n / 2 ^ suc t * 2 ^ suc t + n % 2 ^ suc t = omega arith in
      same_from_bits_below (suc t) (n % 2 ^ suc t) (2 ^ t) (mod_below n (2 ^ suc t) pos) (let twice = pow-suc 2 t in let some = pow_pos t in omega arith)
      (λ i inside. sym (bit_at_cat_low (n / 2 ^ suc t) (suc t) (n % 2 ^ suc t) i inside) ∙ ap (λ m. bit_at m i) (sym whole) ∙ ⊎_elim
      (λ (less : i < t). none i less ∙ sym (bit_at-pow_other t i (λ e. let never : ⊥ = omega arith in never)))
      (λ (more : t ≤ i). let same : i ≡ t = omega arith in ap (bit_at n) same ∙ one ∙ sym (ap (bit_at (2 ^ t)) same ∙ bit_at-pow_same t))
      (cases_lt i t))

  halves : n ≡ n / 2 ^ suc t * 2 ^ suc t + 2 ^ t
  halves = let pos = pow_pos (suc t) in let whole : n ≡ n / 2 ^ suc t * 2 ^ suc t + n % 2 ^ suc t = omega arith in whole ∙ ap (λ low. n / 2 ^ suc t * 2 ^ suc t + low) lowest_part

  one_less : n - 1 ≡ n / 2 ^ suc t * 2 ^ suc t + (2 ^ t - 1)
  one_less = let some = pow_pos t in let whole = halves in omega arith

  less_at : bit_at (n - 1) t ≡ 0
  less_at = ap (λ m. bit_at m t) one_less ∙ bit_at_cat_low (n / 2 ^ suc t) (suc t) (2 ^ t - 1) t (omega arith) ∙ bit_at_ones_above t t (omega arith)

  less_above : (i : ℕ) → t < i → bit_at (n - 1) i ≡ bit_at n i
  less_above i above =
      let twice = pow-suc 2 t in
      let some = pow_pos t in
      ap (λ m. bit_at m i) one_less ∙ bit_at_cat_high (n / 2 ^ suc t) (suc t) (2 ^ t - 1) i (omega arith) (omega arith)
      ∙ sym (ap (λ m. bit_at m i) halves ∙ bit_at_cat_high (n / 2 ^ suc t) (suc t) (2 ^ t) i (omega arith) (omega arith))

  pub cleared_up_to : (i : ℕ) → i ≤ t → bit_at (bit_and n (n - 1)) i ≡ 0
  cleared_up_to i upto = bit_at_and n (n - 1) i ∙ ⊎_elim
      (λ (less : i < t). let bit = none i less in omega arith)
      (λ (more : t ≤ i). let same : i ≡ t = omega arith in let bit = ap (bit_at (n - 1)) same ∙ less_at in omega arith)
      (cases_lt i t)

  pub kept_above : (i : ℕ) → t < i → bit_at (bit_and n (n - 1)) i ≡ bit_at n i
  kept_above i above = bit_at_and n (n - 1) i ∙ (let same = less_above i above in omega arith)

-- ---- four words

module _ (words : List ℕ) (word left byte : ℕ) (is : AreLeft words word left byte) where
  -- Where none is left of a word, the next one is whole.
  none_behind : left ≡ 0 → (at : ℕ) → byte ≤ at → at < 64 * (word + 1) → is_set words at ≡ false
  none_behind none at from before = ⊎_elim
      (λ (early : at < 64 * word). is.passed at from early)
      (λ (late : 64 * word ≤ at).
      let place : at ≡ 64 * word + (at - 64 * word) = omega arith in
      ap (is_set words) place ∙ unset_from_bit words word (at - 64 * word) (omega arith) (sym (is.same (at - 64 * word) (omega arith) (omega arith)) ∙
      ap (λ n. bit_at n (at - 64 * word)) none ∙ bit_at-zero (at - 64 * word)))
      (cases_lt at (64 * word))

  pub next_word : left ≡ 0 → word + 1 < 4 → slice_index words (word + 1) < 2 ^ 64 → AreLeft words (word + 1) (slice_index words (word + 1)) byte
  next_word none more fits = record {
    inside = more;
    fits = fits;
    near = (let near = is.near in omega arith);
    passed = none_behind none;
    gone = λ at before. absurd (let near = is.near in let never : ⊥ = omega arith in never);
    same = λ at inside from. refl;
  }

  -- There is one where a member is.
  pub word_behind : (next : ℕ) → left ≡ 0 → next_from (members_of words) byte ≡ Some next → word + 1 < 4
  word_behind next none found = ⊎_elim
      (λ (less : word + 1 < 4). less)
      (λ (more : 4 ≤ word + 1). absurd (none-some _ (sym (next_in_none words byte (λ at from before. none_behind none at from (omega arith))) ∙ found)))
      (cases_lt (word + 1) 4)

  module _ (some : 0 < left) where
    lowest : (trailing_zeros w64 left < 64) × (bit_at left (trailing_zeros w64 left) ≡ 1) × ((i : ℕ) → i < trailing_zeros w64 left → bit_at left i ≡ 0)
    lowest = bit_at-trailing_zeros w64 left some is.fits

    pub bit_inside : trailing_zeros w64 left < 64
    bit_inside = lowest.0

    from_byte : byte ≤ 64 * word + trailing_zeros w64 left
    from_byte = ⊎_elim
        (λ (less : 64 * word + trailing_zeros w64 left < byte). let gone = is.gone (trailing_zeros w64 left) less in let one = lowest.1 in absurd (let never : ⊥ = omega arith in never))
        (λ (more : byte ≤ 64 * word + trailing_zeros w64 left). more)
        (cases_lt (64 * word + trailing_zeros w64 left) byte)

    -- The lowest bit is the next member.
    pub next_told : next_from (members_of words) byte ≡ Some (64 * word + trailing_zeros w64 left)
    next_told =
        let place = trailing_zeros w64 left in
        let here = from_byte in
        let inside = bit_inside in
        next_in_word words byte word place is.inside is.passed (record {
          inside = inside;
          not_before = omega arith;
          one = sym (is.same place inside here) ∙ lowest.1;
          lowest = λ at from before. sym (is.same at (omega arith) (omega arith)) ∙ lowest.2 at before;
        })

    -- It is a byte's.
    pub next_below : 64 * word + trailing_zeros w64 left < 256
    next_below = let inside = is.inside in let bit = bit_inside in omega arith

    -- Without it the others are left.
    pub left_behind : AreLeft words word (bit_and left (left - 1)) (64 * word + trailing_zeros w64 left + 1)
    left_behind =
        let place = trailing_zeros w64 left in
        let here = from_byte in
        let inside = bit_inside in
        record {
          inside = is.inside;
          fits = (let less = and_le_l left (left - 1) in let fits = is.fits in omega arith);
          near = omega arith;
          passed = λ at from before. absurd (let never : ⊥ = omega arith in never);
          gone = λ at before. cleared_up_to left place lowest.1 lowest.2 at (omega arith);
          same = λ at within from. kept_above left place lowest.1 lowest.2 at (omega arith) ∙ is.same at within (omega arith);
        }

-- The bits of a word from a place on.
module _ (word from : ℕ) (inside : from < 64) where
  pow_lt_64 : 2 ^ from < 2 ^ 64
  pow_lt_64 = let within : suc from ≤ 64 = omega arith in let most = pow_mono within in let twice = pow-suc 2 from in omega (arith, pow_pos from)

  mask_fits : 2 ^ from - 1 < 2 ^ 64
  mask_fits = let below = pow_lt_64 in omega arith

  pub bits_gone : (at : ℕ) → at < from → bit_at (bit_and word (2 ^ 64 - 1 - (2 ^ from - 1))) at ≡ 0
  bits_gone at below =
      bit_at_and word (2 ^ 64 - 1 - (2 ^ from - 1)) at
      ∙ (let mask = bit_at_not w64 (2 ^ from - 1) at mask_fits (omega arith) in let one = bit_at_ones from at below in omega arith)

  pub bits_kept : (at : ℕ) → at < 64 → from ≤ at → bit_at (bit_and word (2 ^ 64 - 1 - (2 ^ from - 1))) at ≡ bit_at word at
  bits_kept at within above =
      bit_at_and word (2 ^ 64 - 1 - (2 ^ from - 1)) at
      ∙ (let mask = bit_at_not w64 (2 ^ from - 1) at mask_fits within in let none = bit_at_ones_above from at above in let bit = bit_at-lt word at in omega arith)

  one_up : 1 * 2 ^ from % 2 ^ 64 ≡ 2 ^ from
  one_up =
      let one : 1 * 2 ^ from ≡ 2 ^ from = omega arith in
      let below : 2 ^ from < 2 ^ 64 = pow_lt_64 in
      ap (λ n. n % 2 ^ 64) one ∙ mod-eq_of_lt below

  pub bits_up : bit_and word (2 ^ 64 - 1 - (2 ^ from - 1)) ≡ bit_and word (2 ^ 64 - 1 - (1 * 2 ^ from % 2 ^ 64 - 1))
  bits_up = ap (λ unit. bit_and word (2 ^ 64 - 1 - (unit - 1))) (sym one_up)
