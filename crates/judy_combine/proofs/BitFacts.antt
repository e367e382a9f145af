-- What is kept of two words, bit by bit.
use Rattle.std.proofs.Common.{◌≡◌, ℕ, zero, suc, ◌-◌, ◌/◌, ◌%◌, ◌^◌, ◌<◌, ◌==◌, min, max, Bool, true, false, cond, List, slice_index, sym, refl, ap, ◌∙◌, arith, bit_and, bit_or}
use Rattle.std.specs.Int.{w64, bit_at, bit_not}
use Rattle.std.proofs.lemmas.Nat.Bits.{bit_at-lt, bit_at-zero, bit_at_and, bit_at_or, bit_at_not}
use Rattle.judy_bits.specs.ByteSets.{has}
use Rattle.judy_bits.specs.BitWords.{members_of}
use Rattle.judy_bits.proofs.MemberLemmas.{has-members_of}
use Rattle.judy_combine.specs.declared.keep.Keep.{Keep}
use Rattle.judy_combine.specs.KeptBits.{is_kept}

none : (wanted : Bool) → ◌≡◌ {A = ℕ} (cond wanted 0 0) 0
none true = refl
none false = refl

some : (wanted : Bool) → (cond wanted 1 0 == 1) ≡ wanted
some true = refl
some false = refl

-- A bit that is kept, by the two bits that it is made of.
kept_of : (keep : Keep) (one other : ℕ) → one < 2 → other < 2
    → (max (max (cond keep.left (min one (1 - other)) 0) (cond keep.both (min one other) 0)) (cond keep.right (min other (1 - one)) 0) == 1) ≡ is_kept keep (one == 1) (other == 1)
kept_of keep zero zero small other_small = λ t. max (max (none keep.left t) (none keep.both t)) (none keep.right t) == 1
kept_of keep zero (suc zero) small other_small = (λ t. max (max (none keep.left t) (none keep.both t)) (cond keep.right 1 0) == 1) ∙ alone (cond keep.right 1 0) ∙ some keep.right
  where
    alone : (n : ℕ) → (max (max 0 0) n == 1) ≡ (n == 1)
    alone n = ap (λ m. m == 1) (let e : max (max 0 0) n ≡ n = omega arith in e)
kept_of keep (suc zero) zero small other_small = (λ t. max (max (cond keep.left 1 0) (none keep.both t)) (none keep.right t) == 1) ∙ alone (cond keep.left 1 0) ∙ some keep.left
  where
    alone : (n : ℕ) → (max (max n 0) 0 == 1) ≡ (n == 1)
    alone n = ap (λ m. m == 1) (let e : max (max n 0) 0 ≡ n = omega arith in e)
kept_of keep (suc zero) (suc zero) small other_small = (λ t. max (max (none keep.left t) (cond keep.both 1 0)) (none keep.right t) == 1) ∙ alone (cond keep.both 1 0) ∙ some keep.both
  where
    alone : (n : ℕ) → (max (max 0 n) 0 == 1) ≡ (n == 1)
    alone n = ap (λ m. m == 1) (let e : max (max 0 n) 0 ≡ n = omega arith in e)
kept_of keep zero (suc (suc n)) small other_small = let never : ⊥ = omega arith in absurd never
kept_of keep (suc zero) (suc (suc n)) small other_small = let never : ⊥ = omega arith in absurd never
kept_of keep (suc (suc n)) other small other_small = let never : ⊥ = omega arith in absurd never

bit_if : (wanted : Bool) (word place bit : ℕ) → bit_at word place ≡ bit → bit_at (cond wanted word 0) place ≡ cond wanted bit 0
bit_if true word place bit is = is
bit_if false word place bit is = bit_at-zero place

-- The same of two words.
pub kept_bit : (keep : Keep) (one other place : ℕ) → one < 2 ^ 64 → other < 2 ^ 64 → place < 64
    → (bit_at (bit_or (bit_or (cond keep.left (bit_and one (bit_not w64 other)) 0) (cond keep.both (bit_and one other) 0)) (cond keep.right (bit_and other (bit_not w64 one)) 0)) place == 1)
    ≡ is_kept keep (bit_at one place == 1) (bit_at other place == 1)
kept_bit keep one other place fits other_fits inside =
    let left = bit_if keep.left (bit_and one (bit_not w64 other)) place _ (bit_at_and one (bit_not w64 other) place ∙ ap (min (bit_at one place)) (bit_at_not w64 other place other_fits inside)) in
    let both = bit_if keep.both (bit_and one other) place _ (bit_at_and one other place) in
    let right = bit_if keep.right (bit_and other (bit_not w64 one)) place _ (bit_at_and other (bit_not w64 one) place ∙ ap (min (bit_at other place)) (bit_at_not w64 one place fits inside)) in
    ap (λ bit. bit == 1)
    (bit_at_or (bit_or (cond keep.left (bit_and one (bit_not w64 other)) 0) (cond keep.both (bit_and one other) 0)) (cond keep.right (bit_and other (bit_not w64 one)) 0) place
    ∙ ap (λ front. max front (bit_at (cond keep.right (bit_and other (bit_not w64 one)) 0) place))
    (bit_at_or (cond keep.left (bit_and one (bit_not w64 other)) 0) (cond keep.both (bit_and one other) 0) place)
    ∙ (λ t. max (max (left t) (both t)) (right t)))
    ∙ kept_of keep (bit_at one place) (bit_at other place) (bit_at-lt one place) (bit_at-lt other place)

-- Words that have just those bits, as sets of bytes.
pub kept_bytes : (keep : Keep) (one other made : List ℕ)
    → ((word : ℕ) → word < 4 → (place : ℕ) → place < 64 →
    (bit_at (slice_index made word) place == 1) ≡ is_kept keep (bit_at (slice_index one word) place == 1) (bit_at (slice_index other word) place == 1))
    → (byte : ℕ) → byte < 256 → has (members_of made) byte ≡ is_kept keep (has (members_of one) byte) (has (members_of other) byte)
kept_bytes keep one other made bits byte small =
    has-members_of made byte small ∙ bits (byte / 64) (omega arith) (byte % 64) (omega arith)
    ∙ (λ t. is_kept keep (sym (has-members_of one byte small) t) (sym (has-members_of other byte small) t))
