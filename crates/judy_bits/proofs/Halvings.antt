-- The search for the 1 of a word that has so many others below it, by halving the part that still holds it.
use Rattle.std.proofs.Common.{◌≡◌, ℕ, zero, suc, ◌+◌, ◌-◌, ◌/◌, ◌%◌, ◌^◌, ◌<◌, ◌≤◌, sym, ap, ◌∙◌, subst, arith, count_ones}
use Rattle.std.specs.Int.Count.{ones, ones_cat}
use Rattle.std.proofs.Math.Nat.{mod-eq_of_lt, div-one, pow-suc}
use Rattle.std.proofs.Math.Pow.{mod-mod-pow}
use Rattle.std.proofs.lemmas.Nat.{mod-pow-add, mod_below, pow_pos, shr-shr, field_of, div-add-mod'}
use Rattle.judy_bits.proofs.BitLemmas.{ones_none}

-- The part is the bits of the word from the place on, so many as the width; it has more than `left` of them,
-- and so many as are left of the index stand below the place.
pub record IsHalving (word index part left place width : ℕ) : Type 0 where
  pub some : 1 ≤ width
  pub inside : place + width ≤ 64
  pub bits : part ≡ word / 2 ^ place % 2 ^ width
  pub holds : left < count_ones part
  pub below : count_ones (word % 2 ^ place) + left ≡ index

-- At first the part is the word.
halving_starts : (word index : ℕ) → word < 2 ^ 64 → index < count_ones word → IsHalving word index word index 0 64
halving_starts word index fits holds =
    let whole : word / 1 ≡ word = div-one word in
    let rest : word % 1 ≡ 0 = omega arith in
    let none : ones (word % 1) ≡ 0 = ap ones rest ∙ ones_none in
    record {
      some = omega arith;
      inside = omega arith;
      bits = sym (ap (λ n. n % 2 ^ 64) whole ∙ mod-eq_of_lt fits);
      holds = holds;
      below = omega arith;
    }

pub halved_starts : (word index : ℕ) → word < 2 ^ 64 → index < count_ones word → IsHalving word index (word / 1 % 2 ^ 64) index 0 64
halved_starts word index fits holds =
    let start = halving_starts word index fits holds in
    subst (λ n. IsHalving word index n index 0 64) start.bits start

module _ (word index part left place width half : ℕ) (halving : IsHalving word index part left place width) (some : 1 ≤ half) (less : half < width) where
  split : width ≡ (width - half) + half
  split = omega arith

  rest_is : part % 2 ^ half ≡ word / 2 ^ place % 2 ^ half
  rest_is = ap (λ n. n % 2 ^ half) (halving.bits ∙ ap (λ n. word / 2 ^ place % 2 ^ n) split) ∙ mod-mod-pow (word / 2 ^ place) (width - half) half

  -- Where more are in the lower part, it is that one.
  halving_low : left < count_ones (part % 2 ^ half) → IsHalving word index (part % 2 ^ half) left place half
  halving_low holds = record {
    some = some;
    inside = let within = halving.inside in omega arith;
    bits = rest_is;
    holds = holds;
    below = halving.below;
  }

  -- Else it is the higher one, and the lower part's are below it.
  halving_high : count_ones (part % 2 ^ half) ≤ left → IsHalving word index (part / 2 ^ half) (left - count_ones (part % 2 ^ half)) (place + half) (width - half)
  halving_high past =
      let small = mod_below part (2 ^ half) (pow_pos half) in
      let both : ones part ≡ ones (part / 2 ^ half) + ones (part % 2 ^ half) = ap ones (sym (div-add-mod' part (2 ^ half))) ∙ ones_cat half (part / 2 ^ half) (part % 2 ^ half) small in
      let turned : place + half ≡ half + place = omega arith in
      let passed : ones (word % 2 ^ (place + half)) ≡ ones (part % 2 ^ half) + ones (word % 2 ^ place) =
      ap (λ n. ones (word % 2 ^ n)) turned ∙ ap ones (mod-pow-add word half place)
      ∙ ones_cat place (word / 2 ^ place % 2 ^ half) (word % 2 ^ place) (mod_below word (2 ^ place) (pow_pos place))
      ∙ ap (λ n. ones n + ones (word % 2 ^ place)) (sym rest_is) in
      let holds = halving.holds in
      let below = halving.below in
      record {
        some = omega arith;
        inside = let within = halving.inside in omega arith;
        bits =
            ap (λ n. n / 2 ^ half) (halving.bits ∙ ap (λ n. word / 2 ^ place % 2 ^ n) split) ∙ field_of (word / 2 ^ place) (width - half) half ∙
            ap (λ n. n % 2 ^ (width - half)) (shr-shr word place half);
        holds = omega arith;
        below = omega arith;
      }

  -- The same with the parts as they stand in the word.
  pub halved_low : left < count_ones (word / 2 ^ place % 2 ^ half) → IsHalving word index (word / 2 ^ place % 2 ^ half) left place half
  halved_low holds = subst (λ n. IsHalving word index n left place half) rest_is (halving_low (subst (λ n. left < count_ones n) (sym rest_is) holds))

  pub halved_high : width - half ≡ half → count_ones (word / 2 ^ place % 2 ^ half) ≤ left
      → IsHalving word index (word / 2 ^ (place + half) % 2 ^ half) (left - count_ones (word / 2 ^ place % 2 ^ half)) (place + half) half
  halved_high even past =
      let high = halving_high (subst (λ n. count_ones n ≤ left) (sym rest_is) past) in
      subst (λ n. IsHalving word index (word / 2 ^ (place + half) % 2 ^ half) (left - count_ones n) (place + half) half) rest_is
      (subst (λ n. IsHalving word index (word / 2 ^ (place + half) % 2 ^ n) (left - count_ones (part % 2 ^ half)) (place + half) n) even
      (subst (λ n. IsHalving word index n (left - count_ones (part % 2 ^ half)) (place + half) (width - half)) high.bits high))

-- A width that is a power of 2 has two equal halves.
pub even_halves : (width power : ℕ) → width ≡ 2 ^ power → 1 < width → (width - width / 2 ≡ width / 2) × (less : ℕ) × (width / 2 ≡ 2 ^ less)
even_halves width zero is more = let never : ⊥ = omega arith in absurd never
even_halves width (suc less) is more = let step = pow-suc 2 less in (omega arith, less, omega arith)
