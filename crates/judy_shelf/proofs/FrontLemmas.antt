-- Fronts of bytes.
use Rattle.std.proofs.Common.{◌≡◌, ℕ, List, [], ◌∷◌, ◌++◌, refl, ap, subst}
use Rattle.judy_shelf.specs.Reads.{OfFronts}

-- No bytes have no proper front.
pub no_fronts : (Holds : List ℕ → Type 0) → OfFronts Holds []
no_fronts Holds [] later byte is = absurd cc
no_fronts Holds (first ∷ front) later byte is = absurd cc

-- A proper front of two pieces is one of the first, or the first and a proper front of the second.
pub fronts_of_both : (Holds : List ℕ → Type 0) (one other : List ℕ) → OfFronts Holds one → OfFronts (λ front. Holds (one ++ front)) other → OfFronts Holds (one ++ other)
fronts_of_both Holds [] other first second front later byte is = second front later byte is
fronts_of_both Holds (x ∷ one) other first second [] later byte is = first [] one x refl
fronts_of_both Holds (x ∷ one) other first second (y ∷ front) later byte is =
    let head : x ≡ y = cc in
    let tail : one ++ other ≡ front ++ byte ∷ later = cc in
    subst (λ z. Holds (z ∷ front)) head (fronts_of_both (λ front. Holds (x ∷ front)) one other (λ front later byte is. first (x ∷ front) later byte (ap (λ bytes. x ∷ bytes) is))
    second front later byte tail)
