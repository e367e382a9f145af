-- The first of some lanes that holds a number, by the bits of a comparison of them all.
use Rattle.std.proofs.Common.{◌≡◌, ◌≢◌, ℕ, ◌+◌, ◌<◌, ◌≤◌, ◌==◌, true, false, cond, not, List, length, map, get_or, sym, refl, ap, ◌∙◌, arith, nat_eq}
use Rattle.std.proofs.lemmas.Bool.{eqb-true, eqb-false}
use Rattle.std.proofs.lemmas.List.{take_all}
use Rattle.std.proofs.lemmas.Simd.{first_set_mask_l, run_in_chunk_stops, run_in_chunk_fails}
use Rattle.std.specs.List.{prefix_len}
use lib.Count.{count_trailing_zeros}
use lib.Lanes.{mask_l, chunk}

module _ (xs : List ℕ) (number count : ℕ) (long : length xs ≡ count) (few : count ≤ 64) where
  -- A bit for each lane that holds the number, and the place of the lowest.
  abbrev pub bits : ℕ
  bits = mask_l (map (λ x. nat_eq x number) xs)

  abbrev pub at : ℕ
  at = count_trailing_zeros 64 bits

  abbrev run : ℕ
  run = prefix_len (λ x. not (nat_eq x number)) (chunk 0 count xs)

  counted : cond (bits == 0) count at ≡ run
  counted = first_set_mask_l (λ x. nat_eq x number) xs count long few ∙ ap (prefix_len (λ x. not (nat_eq x number))) (sym (take_all count xs (omega arith)))

  none : bits == 0 ≡ true → at ≡ 64
  unfolding count_trailing_zeros
  none zero = ap (count_trailing_zeros 64) (eqb-true bits 0 zero)

  -- The lane there holds it.
  pub lowest_holds : at < count → get_or xs at 0 ≡ number
  lowest_holds inside =
      elim (bits == 0) as (λ b. bits == 0 ≡ b → cond b count at ≡ run → get_or xs at 0 ≡ number) [
        | true ↦ λ zero _. let high = none zero in let never : ⊥ = omega arith in absurd never
        | false ↦ λ _ is. eqb-true (get_or xs at 0) number
            (ap (λ n. nat_eq (get_or xs n 0) number) (let e : at ≡ 0 + at = omega arith in e) ∙ run_in_chunk_stops (λ x. nat_eq x number) xs 0 count at 0 (omega arith) is inside)
      ] refl counted

  -- No lane before it does.
  pub none_before : (k : ℕ) → k < count → k < at → get_or xs k 0 ≢ number
  none_before k inside before =
      elim (bits == 0) as (λ b. cond b count at ≡ run → get_or xs k 0 ≢ number) [
        | true ↦ λ is. eqb-false (get_or xs k 0) number (run_in_chunk_fails (λ x. nat_eq x number) xs 0 count count 0 (omega arith) is k (omega arith) (omega arith))
        | false ↦ λ is. eqb-false (get_or xs k 0) number (run_in_chunk_fails (λ x. nat_eq x number) xs 0 count at 0 (omega arith) is k (omega arith) (omega arith))
      ] counted
