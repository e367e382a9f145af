-- The bits that two times four words have together.
use Rattle.std.proofs.Common.{◌≡◌, ℕ, zero, suc, ◌*◌, ◌/◌, ◌%◌, ◌<◌, ◌==◌, ◌&&◌, min, List, [], ◌∷◌, filter, slice_index, sym, refl, ap, ◌∙◌, arith, bit_and}
use Rattle.std.specs.Int.{bit_at}
use Rattle.std.specs.List.{range_with_len}
use Rattle.std.proofs.lemmas.Nat.Bits.{bit_at-lt, bit_at_and}
use Rattle.judy_bits.specs.ByteSets.{has}
use Rattle.judy_bits.specs.BitWords.{is_set, members_of}
use Rattle.judy_bits.proofs.Ranges.{chosen_agree, filter-filter}
use Rattle.judy_bits.proofs.MemberLemmas.{has-members_of}

both_one : (left right : ℕ) → left < 2 → right < 2 → (min left right == 1) ≡ ((left == 1) && (right == 1))
both_one zero zero less small = refl
both_one zero (suc zero) less small = refl
both_one (suc zero) zero less small = refl
both_one (suc zero) (suc zero) less small = refl
both_one (suc (suc n)) right less small = let never : ⊥ = omega arith in absurd never
both_one zero (suc (suc n)) less small = let never : ⊥ = omega arith in absurd never
both_one (suc zero) (suc (suc n)) less small = let never : ⊥ = omega arith in absurd never

module _ (one other : List ℕ) where
  together : List ℕ
  together = bit_and (slice_index one 0) (slice_index other 0) ∷ bit_and (slice_index one 1) (slice_index other 1) ∷ bit_and (slice_index one 2) (slice_index other 2) ∷
      bit_and (slice_index one 3) (slice_index other 3) ∷ []

  together_word : (word : ℕ) → word < 4 → slice_index together word ≡ bit_and (slice_index one word) (slice_index other word)
  unfolding together
  together_word zero inside = refl
  together_word (suc zero) inside = refl
  together_word (suc (suc zero)) inside = refl
  together_word (suc (suc (suc zero))) inside = refl
  together_word (suc (suc (suc (suc n)))) inside = let never : ⊥ = omega arith in absurd never

  -- They are the bytes of the one that the other has.
  pub members_of-together : members_of (bit_and (slice_index one 0) (slice_index other 0) ∷ bit_and (slice_index one 1) (slice_index other 1) ∷
      bit_and (slice_index one 2) (slice_index other 2) ∷ bit_and (slice_index one 3) (slice_index other 3) ∷ []) ≡ filter (has (members_of other)) (members_of one)
  unfolding members_of together
  members_of-together =
      chosen_agree (is_set together) (λ byte. is_set one byte && has (members_of other) byte) 0 256
      (λ at low high.
      let word = at / 64 in
      let place = at % 64 in
      ap (λ n. bit_at n place == 1) (together_word word (omega arith))
      ∙ ap (λ bit. bit == 1) (bit_at_and (slice_index one word) (slice_index other word) place)
      ∙ both_one (bit_at (slice_index one word) place) (bit_at (slice_index other word) place) (bit_at-lt (slice_index one word) place) (bit_at-lt (slice_index other word) place)
      ∙ ap (λ b. is_set one at && b) (sym (has-members_of other at (omega arith))))
      ∙ sym (filter-filter (is_set one) (has (members_of other)) (range_with_len 0 256))
