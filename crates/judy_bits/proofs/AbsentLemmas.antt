-- The bytes that are no members, as the bits that are 0.
use Rattle.std.proofs.Common.{◌≡◌, ℕ, zero, suc, ◌-◌, ◌/◌, ◌%◌, ◌^◌, ◌<◌, ◌==◌, not, List, [], ◌∷◌, slice_index, sym, refl, ap, ◌∙◌, arith}
use Rattle.std.specs.Int.{w64, bit_at}
use Rattle.std.proofs.lemmas.Nat.Bits.{bit_at-lt, bit_at_not}
use Rattle.judy_bits.specs.ByteSets.{has, absent}
use Rattle.judy_bits.specs.BitWords.{is_set, members_of}
use Rattle.judy_bits.proofs.Ranges.{chosen_agree, has-chosen}
use Rattle.judy_bits.proofs.MemberLemmas.{has-members_of}

turned : (bit : ℕ) → bit < 2 → (1 - bit == 1) ≡ not (bit == 1)
turned zero small = refl
turned (suc zero) small = refl
turned (suc (suc n)) small = let never : ⊥ = omega arith in absurd never

-- A bit of a word turned over.
turned_bit : (word place : ℕ) → word < 2 ^ 64 → place < 64 → (bit_at (18446744073709551615 - word) place == 1) ≡ not (bit_at word place == 1)
turned_bit word place fits inside = ap (λ bit. bit == 1) (bit_at_not w64 word place fits inside) ∙ turned (bit_at word place) (bit_at-lt word place)

module _ (words : List ℕ) (fit : (word : ℕ) → word < 4 → slice_index words word < 2 ^ 64) where
  others : List ℕ
  others = (18446744073709551615 - slice_index words 0) ∷ (18446744073709551615 - slice_index words 1) ∷ (18446744073709551615 - slice_index words 2) ∷
      (18446744073709551615 - slice_index words 3) ∷ []

  other_word : (word : ℕ) → word < 4 → slice_index others word ≡ 18446744073709551615 - slice_index words word
  unfolding others
  other_word zero inside = refl
  other_word (suc zero) inside = refl
  other_word (suc (suc zero)) inside = refl
  other_word (suc (suc (suc zero))) inside = refl
  other_word (suc (suc (suc (suc n)))) inside = let never : ⊥ = omega arith in absurd never

  -- The words turned over have the bits of those bytes that are no members.
  pub members_of-absent : members_of ((18446744073709551615 - slice_index words 0) ∷ (18446744073709551615 - slice_index words 1) ∷ (18446744073709551615 - slice_index words 2) ∷
      (18446744073709551615 - slice_index words 3) ∷ []) ≡ absent (members_of words)
  unfolding members_of absent others
  members_of-absent = chosen_agree (is_set others) (λ byte. not (has (members_of words) byte)) 0 256
      (λ at low high.
      let word = at / 64 in
      ap (λ n. bit_at n (at % 64) == 1) (other_word word (omega arith))
      ∙ turned_bit (slice_index words word) (at % 64) (fit word (omega arith)) (omega arith)
      ∙ ap not (sym (has-members_of words at (omega arith))))

-- Of the bytes those are absent that are no members.
pub has-absent : (members : List ℕ) (byte : ℕ) → byte < 256 → has (absent members) byte ≡ not (has members byte)
unfolding absent
has-absent members byte within = has-chosen (λ at. not (has members at)) 256 byte within
