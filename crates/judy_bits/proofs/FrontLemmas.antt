-- How many members are before each word of bits, and so where a member stands.
use Rattle.std.proofs.Common.{◌≡◌, ℕ, zero, suc, ◌+◌, ◌*◌, ◌/◌, ◌%◌, ◌^◌, ◌<◌, cond, nat_lt, List, [], ◌∷◌, slice_index, sym, ap, ◌∙◌, arith}
use Rattle.std.specs.Int.Count.{ones}
use Rattle.judy_bits.specs.ByteSets.{rank}
use Rattle.judy_bits.specs.BitWords.{members_of}
use Rattle.judy_bits.specs.FrontCounts.{AreFronts}
use Rattle.judy_bits.proofs.MemberLemmas.{rank-members_of}

-- Nothing is counted below the first bit.
none : (word : ℕ) → ones (word % 2 ^ 0) ≡ 0
unfolding ones
none word = let nothing : word % 2 ^ 0 ≡ 0 = omega arith in ap ones nothing

-- How many bits are 1 in the words before one of four.
abbrev before : List ℕ → ℕ → ℕ
before words word =
    cond (nat_lt 0 word) (ones (slice_index words 0 % 2 ^ 64)) 0 + cond (nat_lt 1 word) (ones (slice_index words 1 % 2 ^ 64)) 0 + cond (nat_lt 2 word) (ones (slice_index words 2 % 2 ^ 64)) 0

-- They are the members below the first byte of the word.
rank-before : (words : List ℕ) (word : ℕ) → word < 4 → rank (members_of words) (64 * word) ≡ before words word
rank-before words zero inside = let front = rank-members_of words 0 (omega arith) in let nothing = none (slice_index words 0) in omega arith
rank-before words (suc zero) inside = let front = rank-members_of words 64 (omega arith) in let nothing = none (slice_index words 1) in omega arith
rank-before words (suc (suc zero)) inside = let front = rank-members_of words 128 (omega arith) in let nothing = none (slice_index words 2) in omega arith
rank-before words (suc (suc (suc zero))) inside = let front = rank-members_of words 192 (omega arith) in let nothing = none (slice_index words 3) in omega arith
rank-before words (suc (suc (suc (suc n)))) inside = let never : ⊥ = omega arith in absurd never

-- How many members are below a byte: those before its word, and those of its word.
pub rank-front : (words : List ℕ) (byte : ℕ) → byte < 256
    → rank (members_of words) byte ≡ rank (members_of words) (64 * (byte / 64)) + ones (slice_index words (byte / 64) % 2 ^ (byte % 64))
rank-front words byte within =
    rank-members_of words byte within ∙ ap (λ n. n + ones (slice_index words (byte / 64) % 2 ^ (byte % 64))) (sym (rank-before words (byte / 64) (omega arith)))

-- What is summed up word by word.
pub fronts-summed : (words members : List ℕ) (first second third : ℕ) → members_of words ≡ members → first ≡ ones (slice_index words 0 % 2 ^ 64)
    → second ≡ ones (slice_index words 1 % 2 ^ 64) → third ≡ ones (slice_index words 2 % 2 ^ 64)
    → AreFronts (0 ∷ first ∷ (first + second) ∷ (first + second + third) ∷ []) members
fronts-summed words members first second third is one two three word inside =
    summed word inside ∙ sym (rank-before words word inside) ∙ ap (λ these. rank these (64 * word)) is
  where
    summed : (word : ℕ) → word < 4 → slice_index (0 ∷ first ∷ (first + second) ∷ (first + second + third) ∷ []) word ≡ before words word
    summed zero inside = omega arith
    summed (suc zero) inside = omega arith
    summed (suc (suc zero)) inside = omega arith
    summed (suc (suc (suc zero))) inside = omega arith
    summed (suc (suc (suc (suc n)))) inside = let never : ⊥ = omega arith in absurd never
