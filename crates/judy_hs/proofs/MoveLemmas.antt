-- What elements lead to, one after the other, moves as they do.
use Rattle.std.proofs.Common.{ℕ, zero, suc, ◌<◌, List, [], ◌∷◌, ◌++◌, length, get_or, set, subst, arith}
use Rattle.std.specs.List.{flat_map}
use Rattle.std.specs.List.Sorted.{IsPermutation}
use Rattle.std.proofs.lemmas.List.{append_assoc}
use Rattle.std.proofs.lemmas.List.Edits.{swap_is}
use Rattle.std.proofs.lemmas.List.Sorted.{IsPermutation-refl, IsPermutation-trans, IsPermutation-keeps, IsPermutation-append_left, IsPermutation-append_right, IsPermutation-append_comm}

module _ {X A : Type 0} (part : X → List A) where
  -- Two parts at the front change places.
  fronts_moved : (one two rest : List A) → IsPermutation (one ++ (two ++ rest)) (two ++ (one ++ rest))
  fronts_moved one two rest =
      subst (λ xs. IsPermutation xs (two ++ (one ++ rest))) (append_assoc one two rest)
      (subst (λ ys. IsPermutation ((one ++ two) ++ rest) ys) (append_assoc two one rest)
      (IsPermutation-append_left rest (one ++ two) (two ++ one) (IsPermutation-append_comm one two)))

  -- An element changes places with one in front of all.
  first_moved : (x : X) (xs : List X) (j : ℕ) (d : X) → j < length xs → IsPermutation (part x ++ flat_map part xs) (part (get_or xs j d) ++ flat_map part (set xs j x))
  first_moved x [] j d inside = absurd (omega arith)
  first_moved x (y ∷ ys) zero d inside = fronts_moved (part x) (part y) (flat_map part ys)
  first_moved x (y ∷ ys) (suc j) d inside =
      IsPermutation-trans _ _ _ (fronts_moved (part x) (part y) (flat_map part ys))
      (IsPermutation-trans _ _ _ (IsPermutation-append_right (part y) (part x ++ flat_map part ys) (part (get_or ys j d) ++ flat_map part (set ys j x)) (first_moved x ys j d (omega arith)))
      (fronts_moved (part y) (part (get_or ys j d)) (flat_map part (set ys j x))))

  -- Two elements change places.
  two_moved : (xs : List X) (i j : ℕ) (d : X) → i < length xs → j < length xs → IsPermutation (flat_map part xs) (flat_map part (set (set xs i (get_or xs j d)) j (get_or xs i d)))
  two_moved [] i j d here there = absurd (omega arith)
  two_moved (x ∷ xs) zero zero d here there = IsPermutation-refl (flat_map part (x ∷ xs))
  two_moved (x ∷ xs) zero (suc j) d here there = first_moved x xs j d (omega arith)
  two_moved (x ∷ xs) (suc i) zero d here there = first_moved x xs i d (omega arith)
  two_moved (x ∷ xs) (suc i) (suc j) d here there =
      IsPermutation-append_right (part x) (flat_map part xs) (flat_map part (set (set xs i (get_or xs j d)) j (get_or xs i d))) (two_moved xs i j d (omega arith) (omega arith))

  first_of : (xs : List X) → 0 < length xs → X
  first_of [] some = absurd (omega arith)
  first_of (x ∷ xs) some = x

  pub parts_moved : (xs ys : List X) → IsPermutation xs ys → IsPermutation (flat_map part xs) (flat_map part ys)
  parts_moved xs ys = IsPermutation-keeps xs (λ l. IsPermutation (flat_map part xs) (flat_map part l)) (IsPermutation-refl (flat_map part xs)) (λ l i j p q h.
      let d : X = first_of l (omega arith) in
      subst (λ ys. IsPermutation (flat_map part xs) (flat_map part ys)) (swap_is l i j d p q) (IsPermutation-trans _ _ _ h (two_moved l i j d p q))) ys
