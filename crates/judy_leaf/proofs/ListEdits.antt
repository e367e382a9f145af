-- What a key put in or taken out makes of the keys, which are the first of all places, and of the places after them.
use Rattle.std.proofs.Common.{◌≡◌, ℕ, zero, suc, ◌+◌, ◌<◌, ◌≤◌, List, [], ◌∷◌, ◌++◌, length, take, drop, replicate, refl, ap, sym, ◌∙◌, arith}
use Rattle.std.specs.List.{insert, remove}
use Rattle.std.proofs.lemmas.List.{take-append-le, drop-append-le}
use Rattle.judy_leaf.specs.Packing.{pushed, pulled}

take-first : (count x : ℕ) (xs : List ℕ) → count ≤ length xs → take count (pushed zero x xs) ≡ take count (x ∷ xs)
take-first zero x xs within = refl
take-first (suc count) x [] within = let never : ⊥ = omega arith in absurd never
take-first (suc count) x (y ∷ ys) within = ap (λ rest. x ∷ rest) (take-first count y ys (omega arith))

-- The keys with one more.
pub take-pushed : (at key count : ℕ) (xs : List ℕ) → at ≤ count → count < length xs → take (count + 1) (pushed at key xs) ≡ insert (take count xs) at key
take-pushed at key count xs place inside = ap (λ n. take n (pushed at key xs)) (let e : count + 1 ≡ suc count = omega arith in e) ∙ by_place at count xs place inside
  where
    by_place : (at count : ℕ) (xs : List ℕ) → at ≤ count → count < length xs → take (suc count) (pushed at key xs) ≡ insert (take count xs) at key
    by_place at count [] place inside = let never : ⊥ = omega arith in absurd never
    by_place zero count (x ∷ xs) place inside = ap (λ rest. key ∷ rest) (take-first count x xs (omega arith))
    by_place (suc at) zero (x ∷ xs) place inside = let never : ⊥ = omega arith in absurd never
    by_place (suc at) (suc count) (x ∷ xs) place inside = ap (λ rest. x ∷ rest) (by_place at count xs (omega arith) (omega arith))

same_head : (x y : ℕ) (xs ys : List ℕ) → x ∷ xs ≡ y ∷ ys → x ≡ y
same_head x y xs ys e = cc

same_tail : (x y : ℕ) (xs ys : List ℕ) → x ∷ xs ≡ y ∷ ys → xs ≡ ys
same_tail x y xs ys e = cc

no_cons : (x : ℕ) (xs : List ℕ) → [] ≡ x ∷ xs → ⊥
no_cons x xs e = cc

pushed-zeros : (count : ℕ) → pushed zero 0 (replicate count 0) ≡ replicate count 0
pushed-zeros zero = refl
pushed-zeros (suc count) = ap (λ rest. 0 ∷ rest) (pushed-zeros count)

drop-first : (count x left : ℕ) (xs : List ℕ) → drop count (x ∷ xs) ≡ replicate (suc left) 0 → drop count (pushed zero x xs) ≡ replicate left 0
drop-first zero x left xs clear = (λ t. pushed zero (same_head x 0 xs (replicate left 0) clear t) (same_tail x 0 xs (replicate left 0) clear t)) ∙ pushed-zeros left
drop-first (suc count) x left [] clear = absurd (no_cons 0 (replicate left 0) (sym (drop_nothing count) ∙ clear))
  where
    drop_nothing : (count : ℕ) → drop {A = ℕ} count [] ≡ []
    drop_nothing zero = refl
    drop_nothing (suc count) = refl
drop-first (suc count) x left (y ∷ ys) clear = drop-first count y left ys clear

-- After them the places stay 0, one fewer.
pub drop-pushed : (at key count left : ℕ) (xs : List ℕ) → at ≤ count → drop count xs ≡ replicate (suc left) 0 → drop (count + 1) (pushed at key xs) ≡ replicate left 0
drop-pushed at key count left xs place clear = ap (λ n. drop n (pushed at key xs)) (let e : count + 1 ≡ suc count = omega arith in e) ∙ by_place at count xs place clear
  where
    drop_nothing : (count : ℕ) → drop {A = ℕ} count [] ≡ []
    drop_nothing zero = refl
    drop_nothing (suc count) = refl

    by_place : (at count : ℕ) (xs : List ℕ) → at ≤ count → drop count xs ≡ replicate (suc left) 0 → drop (suc count) (pushed at key xs) ≡ replicate left 0
    by_place at count [] place clear = absurd (no_cons 0 (replicate left 0) (sym (drop_nothing count) ∙ clear))
    by_place zero count (x ∷ xs) place clear = drop-first count x left xs clear
    by_place (suc at) zero (x ∷ xs) place clear = let never : ⊥ = omega arith in absurd never
    by_place (suc at) (suc count) (x ∷ xs) place clear = by_place at count xs (omega arith) clear

-- The keys without one.
pub take-pulled : (at count : ℕ) (xs : List ℕ) → at ≤ count → count < length xs → take count (pulled at 0 xs) ≡ remove (take (count + 1) xs) at
take-pulled at count xs place inside = by_place at count xs place inside ∙ ap (λ n. remove (take n xs) at) (let e : suc count ≡ count + 1 = omega arith in e)
  where
    by_place : (at count : ℕ) (xs : List ℕ) → at ≤ count → count < length xs → take count (pulled at 0 xs) ≡ remove (take (suc count) xs) at
    by_place at count [] place inside = let never : ⊥ = omega arith in absurd never
    by_place zero count (x ∷ xs) place inside = take-append-le count xs (0 ∷ []) (omega arith)
    by_place (suc at) zero (x ∷ xs) place inside = let never : ⊥ = omega arith in absurd never
    by_place (suc at) (suc count) (x ∷ xs) place inside = ap (λ rest. x ∷ rest) (by_place at count xs (omega arith) (omega arith))

pub replicate_ended : (count x : ℕ) → replicate count x ++ x ∷ [] ≡ replicate (suc count) x
replicate_ended zero x = refl
replicate_ended (suc count) x = ap (λ rest. x ∷ rest) (replicate_ended count x)

-- After them the places stay 0, one more.
pub drop-pulled : (at count left : ℕ) (xs : List ℕ) → at ≤ count → count < length xs → drop (count + 1) xs ≡ replicate left 0 → drop count (pulled at 0 xs) ≡ replicate (suc left) 0
drop-pulled at count left xs place inside clear = by_place at count xs place inside (ap (λ n. drop n xs) (let e : suc count ≡ count + 1 = omega arith in e) ∙ clear)
  where
    by_place : (at count : ℕ) (xs : List ℕ) → at ≤ count → count < length xs → drop (suc count) xs ≡ replicate left 0 → drop count (pulled at 0 xs) ≡ replicate (suc left) 0
    by_place at count [] place inside clear = let never : ⊥ = omega arith in absurd never
    by_place zero count (x ∷ xs) place inside clear = drop-append-le count xs (0 ∷ []) (omega arith) ∙ ap (λ l. l ++ 0 ∷ []) clear ∙ replicate_ended left 0
    by_place (suc at) zero (x ∷ xs) place inside clear = let never : ⊥ = omega arith in absurd never
    by_place (suc at) (suc count) (x ∷ xs) place inside clear = by_place at count xs (omega arith) (omega arith) clear

-- A front of zeros is zeros.
pub front_of_zeros : (xs ys : List ℕ) (count : ℕ) → xs ++ ys ≡ replicate count 0 → xs ≡ replicate (length xs) 0
front_of_zeros [] ys count e = refl
front_of_zeros (x ∷ xs) ys zero e = absurd (no_cons x (xs ++ ys) (sym e))
front_of_zeros (x ∷ xs) ys (suc count) e = λ t. same_head x 0 (xs ++ ys) (replicate count 0) e t ∷ front_of_zeros xs ys count (same_tail x 0 (xs ++ ys) (replicate count 0) e) t
