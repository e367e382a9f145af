-- Fronts of byte strings.
use Rattle.std.proofs.Common.{◌≡◌, ℕ, zero, suc, ◌<◌, ◌≤◌, Bool, true, false, cond, ◌==◌, List, [], ◌∷◌, length, take, drop, get_or, refl, sym, arith, true≢false}
use Rattle.std.proofs.lemmas.Bool.{eqb-true}
use Rattle.judy_model.specs.Prefixes.{begins_with}
use Rattle.judy_model.specs.DumpText.{shared_length}
use Rattle.judy_model.proofs.lemmas.maps.Tests.{first_true, second_true}

-- What begins a string is no longer than that.
pub begins_within : (key bytes : List ℕ) → begins_with key bytes ≡ true → length key ≤ length bytes
unfolding begins_with
begins_within [] bytes begins = omega arith
begins_within (k ∷ key) [] begins = absurd (true≢false (sym begins))
begins_within (k ∷ key) (b ∷ bytes) begins = let rest = begins_within key bytes (second_true (k == b) (begins_with key bytes) begins) in omega (arith, rest)

-- It has the string's bytes.
pub begins_at : (key bytes : List ℕ) (at : ℕ) → begins_with key bytes ≡ true → at < length key → get_or key at 0 ≡ get_or bytes at 0
unfolding begins_with
begins_at [] bytes at begins inside = let never : ⊥ = omega (arith, inside) in absurd never
begins_at (k ∷ key) [] at begins inside = absurd (true≢false (sym begins))
begins_at (k ∷ key) (b ∷ bytes) zero begins inside = eqb-true k b (first_true (k == b) (begins_with key bytes) begins)
begins_at (k ∷ key) (b ∷ bytes) (suc at) begins inside = begins_at key bytes at (second_true (k == b) (begins_with key bytes) begins) (omega (arith, inside))

-- Nothing more is shared where the second of two strings ends.
pub shared_end : (n : ℕ) (key bytes : List ℕ) → length bytes ≤ n → shared_length (drop n key) (drop n bytes) ≡ 0
shared_end zero [] [] ended = refl
shared_end zero (k ∷ key) [] ended = refl
shared_end (suc n) [] [] ended = refl
shared_end (suc n) (k ∷ key) [] ended = nothing (drop n key)
  where
    nothing : (key : List ℕ) → shared_length key [] ≡ 0
    nothing [] = refl
    nothing (k ∷ key) = refl
shared_end zero key (b ∷ bytes) ended = absurd (omega (arith, ended))
shared_end (suc n) [] (b ∷ bytes) ended = refl
shared_end (suc n) (k ∷ key) (b ∷ bytes) ended = shared_end n key bytes (omega (arith, ended))

-- The front of a key that is shared is that of the string.
pub shared_front : (key bytes : List ℕ) → take (shared_length key bytes) key ≡ take (shared_length key bytes) bytes
shared_front [] [] = refl
shared_front [] (b ∷ bytes) = refl
shared_front (k ∷ key) [] = refl
shared_front (k ∷ key) (b ∷ bytes) = by (k == b) refl (shared_front key bytes)
  where
    by : (test : Bool) → (k == b) ≡ test → take (shared_length key bytes) key ≡ take (shared_length key bytes) bytes →
        take (cond test (suc (shared_length key bytes)) 0) (k ∷ key) ≡ take (cond test (suc (shared_length key bytes)) 0) (b ∷ bytes)
    by true same rest = λ t. eqb-true k b same t ∷ rest t
    by false apart rest = refl

-- No more is shared than either has.
pub shared_most : (key bytes : List ℕ) → (shared_length key bytes ≤ length key) × (shared_length key bytes ≤ length bytes)
shared_most [] bytes = (omega arith, omega arith)
shared_most (k ∷ key) [] = (omega arith, omega arith)
shared_most (k ∷ key) (b ∷ bytes) = by (k == b) (shared_most key bytes)
  where
    by : (test : Bool) → (shared_length key bytes ≤ length key) × (shared_length key bytes ≤ length bytes) →
        (cond test (suc (shared_length key bytes)) 0 ≤ suc (length key)) × (cond test (suc (shared_length key bytes)) 0 ≤ suc (length bytes))
    by true most = let less = most.0 in let fewer = most.1 in (omega (arith, less), omega (arith, fewer))
    by false most = (omega arith, omega arith)
