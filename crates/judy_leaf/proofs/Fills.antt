-- What is written of pairs, one after another.
use Rattle.std.proofs.Common.{◌≡◌, ℕ, zero, suc, ◌+◌, ◌<◌, List, [], ◌∷◌, ◌++◌, length, take, drop, get_or, set, refl, ap, sym, ◌∙◌, arith}
use Rattle.std.proofs.lemmas.List.{take_all, take_more_set}
use Rattle.judy_leaf.specs.KeyLists.{keys_of, values_of, shift}
use Rattle.judy_leaf.specs.Fills.{made_of}

-- The next one.
made_more : {E : Type 0} (made : ℕ → ℕ → E) (by : ℕ) (pairs : List (ℕ × ℕ)) (at place n : ℕ) → n ≡ at + place → n < length pairs
    → take place (made_of made (shift by (drop at pairs))) ++ made (by + get_or (keys_of pairs) n 0) (get_or (values_of pairs) n 0) ∷ [] ≡ take (place + 1) (made_of made (shift by (drop at pairs)))
made_more made by pairs at place n sum inside = more made by pairs at place n sum inside ∙ ap (λ n. take n (made_of made (shift by (drop at pairs)))) (let e : suc place ≡ place + 1 = omega arith in e)
  where
    more : {E : Type 0} (made : ℕ → ℕ → E) (by : ℕ) (pairs : List (ℕ × ℕ)) (at place n : ℕ) → n ≡ at + place → n < length pairs
        → take place (made_of made (shift by (drop at pairs))) ++ made (by + get_or (keys_of pairs) n 0) (get_or (values_of pairs) n 0) ∷ [] ≡
        take (suc place) (made_of made (shift by (drop at pairs)))
    more made by [] at place n sum inside = let never : ⊥ = omega arith in absurd never
    more made by (pair ∷ pairs) zero zero zero sum inside = refl
    more made by (pair ∷ pairs) zero zero (suc n) sum inside = let never : ⊥ = omega arith in absurd never
    more made by (pair ∷ pairs) zero (suc place) zero sum inside = let never : ⊥ = omega arith in absurd never
    more made by (pair ∷ pairs) zero (suc place) (suc n) sum inside = ap (λ rest. made (by + pair.0) pair.1 ∷ rest) (more made by pairs zero place n (omega arith) (omega arith))
    more made by (pair ∷ pairs) (suc at) place zero sum inside = let never : ⊥ = omega arith in absurd never
    more made by (pair ∷ pairs) (suc at) place (suc n) sum inside = more made by pairs at place n (omega arith) (omega arith)

-- It is written behind those that are.
pub written_more : {E : Type 0} (made : ℕ → ℕ → E) (by : ℕ) (pairs : List (ℕ × ℕ)) (at place : ℕ) (out : List E) (one : E) → place < length out → at + place < length pairs
    → one ≡ made (by + get_or (keys_of pairs) (at + place) 0) (get_or (values_of pairs) (at + place) 0)
    → take place out ≡ take place (made_of made (shift by (drop at pairs))) → take (place + 1) (set out place one) ≡ take (place + 1) (made_of made (shift by (drop at pairs)))
written_more made by pairs at place out one inside here is so_far =
    take_more_set out place one inside ∙ (λ t. so_far t ++ is t ∷ []) ∙ made_more made by pairs at place (at + place) refl here

take-made : {E : Type 0} (made : ℕ → ℕ → E) (by n : ℕ) (pairs : List (ℕ × ℕ)) → take n (made_of made (shift by pairs)) ≡ made_of made (shift by (take n pairs))
take-made made by zero pairs = refl
take-made made by (suc n) [] = refl
take-made made by (suc n) (pair ∷ pairs) = ap (λ rest. made (by + pair.0) pair.1 ∷ rest) (take-made made by n pairs)

-- All are written.
pub all_made : {E : Type 0} (made : ℕ → ℕ → E) (by at n size : ℕ) (pairs : List (ℕ × ℕ)) (out : List E) → size ≡ n → length out ≡ n
    → take n out ≡ take n (made_of made (shift by (drop at pairs))) → out ≡ made_of made (shift by (take size (drop at pairs)))
all_made made by at n size pairs out same long so_far =
    sym (take_all n out (omega arith)) ∙ so_far ∙ take-made made by n (drop at pairs) ∙ ap (λ n. made_of made (shift by (take n (drop at pairs)))) (sym same)

made_pairs : (pairs : List (ℕ × ℕ)) → made_of (λ key value. (key, value)) pairs ≡ pairs
made_pairs [] = refl
made_pairs (pair ∷ pairs) = ap (λ rest. pair ∷ rest) (made_pairs pairs)

-- Pairs stand for themselves.
pub whole_pairs : (by size : ℕ) (pairs : List (ℕ × ℕ)) → size ≡ length pairs → made_of (λ key value. (key, value)) (shift by (take size (drop 0 pairs))) ≡ shift by pairs
whole_pairs by size pairs same = made_pairs (shift by (take size (drop 0 pairs))) ∙ ap (shift by) (take_all size pairs (omega arith))
