-- Fronts that a key shares with the key before it.
use Rattle.std.proofs.Common.{◌≡◌, ◌≢◌, ℕ, zero, suc, ◌+◌, ◌≤◌, true, false, cond, ◌==◌, List, [], ◌∷◌, ◌++◌, length, take, drop, Some, None, slice_get, refl, sym, ap, ◌∙◌, arith}
use Rattle.std.proofs.lemmas.Bool.{eqb-true, eq-eqb}
use Rattle.judy_model.specs.DumpText.{shared_length, beside_before}
use Rattle.judy_model.specs.DumpGrammar.{is_longest_shared}

same_test : (n : ℕ) → n == n ≡ true
same_test n = eq-eqb n n refl

other_test : (n m : ℕ) → n ≢ m → n == m ≡ false
other_test n m apart = elim (n == m) as (λ b. n == m ≡ b → n == m ≡ false) [
  | true ↦ λ e. absurd (apart (eqb-true n m e))
  | false ↦ λ e. e
] refl

-- With no byte nothing is shared.
nothing_shared : (before : List ℕ) → shared_length before [] ≡ 0
nothing_shared [] = refl
nothing_shared (byte ∷ before) = refl

-- None more, where the key ends.
pub shared_key_end : (n : ℕ) (before key : List ℕ) → length key ≤ n → shared_length (drop n before) (drop n key) ≡ 0
shared_key_end zero before [] k = nothing_shared before
shared_key_end (suc n) before [] k = nothing_shared (drop (suc n) before)
shared_key_end zero before (y ∷ key) k = absurd (omega (arith, k))
shared_key_end (suc n) [] (y ∷ key) k = refl
shared_key_end (suc n) (x ∷ before) (y ∷ key) k = shared_key_end n before key (omega (arith, k))

-- The front that is shared for certain, and the rest.
shared_front : (shared : ℕ) (before suffix : List ℕ) → shared ≤ length before → shared_length before (take shared before ++ suffix) ≡ shared + shared_length (drop shared before) suffix
shared_front zero before suffix few = omega arith
shared_front (suc shared) [] suffix few = absurd (omega (arith, few))
shared_front (suc shared) (x ∷ before) suffix few =
    let rest = shared_front shared before suffix (omega (arith, few)) in
    ap (λ t. cond t (suc (shared_length before (take shared before ++ suffix))) 0) (same_test x) ∙ omega arith

none_more : (shared more : ℕ) → (more == 0) ≡ (shared + more == shared)
none_more shared zero = sym (eq-eqb (shared + 0) shared (omega arith))
none_more shared (suc more) = other_test (suc more) 0 (λ is. omega (arith, is)) ∙ sym (other_test (shared + suc more) shared (λ is. omega (arith, is)))

pub longest_shared : (before : List ℕ) (shared : ℕ) (suffix : List ℕ) → shared ≤ length before → (shared_length (drop shared before) suffix == 0) ≡ is_longest_shared before shared suffix
longest_shared before shared suffix few = none_more shared (shared_length (drop shared before) suffix) ∙ ap (λ n. n == shared) (sym (shared_front shared before suffix few))

-- ---- entries beside the key before

-- The key before the one at a place.
abbrev pub key_before : List ℕ → List (List ℕ × ℕ) → ℕ → List ℕ
key_before before [] place = before
key_before before (entry ∷ entries) zero = before
key_before before (entry ∷ entries) (suc place) = key_before entry.0 entries place

pub beside_at : (before : List ℕ) (entries : List (List ℕ × ℕ)) (place : ℕ) (entry : List ℕ × ℕ) → slice_get entries place ≡ Some entry →
    slice_get (beside_before before entries) place ≡ Some (key_before before entries place, entry)
beside_at before [] place entry at = absurd cc
beside_at before (first ∷ entries) zero entry at = let same : first ≡ entry = cc in ap (λ e. Some (before, e)) same
beside_at before (first ∷ entries) (suc place) entry at = beside_at first.0 entries place entry at

pub not_beside_at : (before : List ℕ) (entries : List (List ℕ × ℕ)) (place : ℕ) → slice_get entries place ≡ None → slice_get (beside_before before entries) place ≡ None
not_beside_at before [] place at = refl
not_beside_at before (first ∷ entries) zero at = absurd cc
not_beside_at before (first ∷ entries) (suc place) at = not_beside_at first.0 entries place at

-- Behind an entry its key is the one before.
pub key_before_next : (before : List ℕ) (entries : List (List ℕ × ℕ)) (place : ℕ) (entry : List ℕ × ℕ) → slice_get entries place ≡ Some entry → key_before before entries (suc place) ≡ entry.0
key_before_next before [] place entry at = absurd cc
key_before_next before (first ∷ []) zero entry at = let same : first ≡ entry = cc in ap (λ e. e.0) same
key_before_next before (first ∷ second ∷ entries) zero entry at = let same : first ≡ entry = cc in ap (λ e. e.0) same
key_before_next before (first ∷ entries) (suc place) entry at = key_before_next first.0 entries place entry at

pub key_before_first : (before : List ℕ) (entries : List (List ℕ × ℕ)) → key_before before entries 0 ≡ before
key_before_first before [] = refl
key_before_first before (entry ∷ entries) = refl
