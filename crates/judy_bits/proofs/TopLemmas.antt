-- A word that is moved up until the bit at a place is its highest.
use Rattle.std.proofs.Common.{◌≡◌, ◌≢◌, ℕ, ◌+◌, ◌-◌, ◌*◌, ◌/◌, ◌%◌, ◌^◌, ◌<◌, ◌≤◌, Bool, true, false, cond, Some, None, sym, refl, ap, ◌∙◌, arith}
use Rattle.std.specs.Int.{bit_at}
use Rattle.std.specs.Int.Count.{ones, ones_cat, ones-ones}
use Rattle.std.proofs.Math.Nat.{add-mul, mul_assoc}
use Rattle.std.proofs.lemmas.Nat.{pow-add, pow_pos, mul-le, mod-pow-add, mod_below, shr_split}
use Rattle.std.proofs.lemmas.Nat.Bits.{bit_at-lt}
use Rattle.std.proofs.lemmas.Option.{same_Some}
use Rattle.judy_bits.proofs.BitLemmas.{ones_none}

ones_one : ones 1 ≡ 1
ones_one = ones-ones 1

module _ (word place : ℕ) (inside : place < 64) where
  -- By how many bits it is moved, what stays, and the part of that below the place.
  abbrev by : ℕ
  by = 63 - place

  abbrev low : ℕ
  low = word % 2 ^ (1 + place)

  abbrev rest : ℕ
  rest = word % 2 ^ place

  low_is : low ≡ bit_at word place * 2 ^ place + rest
  low_is = mod-pow-add word 1 place

  whole : 2 ^ (1 + place) * 2 ^ by ≡ 2 ^ 64
  whole = sym (pow-add 2 (1 + place) by) ∙ ap (λ n. 2 ^ n) (let e : 1 + place + by ≡ 64 = omega arith in e)

  half : 2 ^ place * 2 ^ by ≡ 2 ^ 63
  half = sym (pow-add 2 place by) ∙ ap (λ n. 2 ^ n) (let e : place + by ≡ 63 = omega arith in e)

  fits : low * 2 ^ by < 2 ^ 64
  fits =
      let below : low < 2 ^ (1 + place) = mod_below word (2 ^ (1 + place)) (pow_pos (1 + place)) in
      let most : (low + 1) * 2 ^ by ≤ 2 ^ (1 + place) * 2 ^ by = mul-le (low + 1) (2 ^ by) (2 ^ (1 + place)) (2 ^ by) (omega arith) (omega arith) in
      let spread = add-mul low 1 (2 ^ by) in
      let some = pow_pos by in
      omega (arith, whole)

  -- Only what is at the place and below it stays.
  pub moved : word * 2 ^ by % 2 ^ 64 ≡ low * 2 ^ by
  moved =
      let above = word / 2 ^ (1 + place) in
      ap (λ n. n * 2 ^ by % 2 ^ 64) (sym (shr_split word (1 + place)))
      ∙ ap (λ n. n % 2 ^ 64) (add-mul (above * 2 ^ (1 + place)) low (2 ^ by) ∙ ap (λ n. n + low * 2 ^ by) (mul_assoc above (2 ^ (1 + place)) (2 ^ by) ∙ ap (λ n. above * n) whole))
      ∙ (let e : (above * 2 ^ 64 + low * 2 ^ by) % 2 ^ 64 ≡ low * 2 ^ by = omega (arith, fits) in e)

  ones_low : ones (word * 2 ^ by % 2 ^ 64) ≡ ones low
  ones_low =
      ap ones (moved ∙ (let e : low * 2 ^ by ≡ low * 2 ^ by + 0 = omega arith in e))
      ∙ ones_cat by low 0 (pow_pos by) ∙ (let none = ones_none in let e : ones low + ones 0 ≡ ones low = omega arith in e)

  -- The highest bit is 0 where that at the place is.
  pub top_clear : word * 2 ^ by % 2 ^ 64 / 2 ^ 63 ≡ 0 → bit_at word place ≡ 0
  top_clear clear =
      let small = bit_at-lt word place in
      let least : bit_at word place * 2 ^ place * 2 ^ by ≤ low * 2 ^ by = mul-le (bit_at word place * 2 ^ place) (2 ^ by) low (2 ^ by) (omega (arith, low_is)) (omega arith) in
      let turned : bit_at word place * 2 ^ place * 2 ^ by ≡ bit_at word place * 2 ^ 63 = mul_assoc (bit_at word place) (2 ^ place) (2 ^ by) ∙ ap (λ n. bit_at word place * n) half in
      omega (arith, moved)

  -- Else those that are 1 are that one, and those below.
  pub top_set : word * 2 ^ by % 2 ^ 64 / 2 ^ 63 ≢ 0 → (bit_at word place ≡ 1) × (ones (word * 2 ^ by % 2 ^ 64) ≡ 1 + ones rest)
  top_set some =
      let small = bit_at-lt word place in
      let not_zero : bit_at word place ≢ 0 = λ clear.
      let same : low ≡ rest = low_is ∙ ap (λ bit. bit * 2 ^ place + rest) clear ∙ (let e : 0 * 2 ^ place + rest ≡ rest = omega arith in e) in
      let below : rest < 2 ^ place = mod_below word (2 ^ place) (pow_pos place) in
      let most : (rest + 1) * 2 ^ by ≤ 2 ^ place * 2 ^ by = mul-le (rest + 1) (2 ^ by) (2 ^ place) (2 ^ by) (omega arith) (omega arith) in
      let spread = add-mul rest 1 (2 ^ by) in
      let some_room = pow_pos by in
      let as_rest : low * 2 ^ by ≡ rest * 2 ^ by = ap (λ n. n * 2 ^ by) same in
      some (omega (arith, moved, half)) in
      let one : bit_at word place ≡ 1 = omega arith in
      (one, ones_low ∙ ap ones low_is ∙ ones_cat place (bit_at word place) rest (mod_below word (2 ^ place) (pow_pos place)) ∙ ap (λ n. n + ones rest) (ap ones one ∙ ones_one))

-- What a bit says that was asked for with a number beside it.
pub some_bit : (b : Bool) (n here : ℕ) → Some here ≡ cond b (Some n) None → (b ≡ true) × (here ≡ n)
some_bit true n here found = (refl, same_Some here n found)
some_bit false n here found = cc

pub none_bit : (b : Bool) (n : ℕ) → None ≡ cond b (Some n) None → b ≡ false
none_bit true n found = cc
none_bit false n found = refl
