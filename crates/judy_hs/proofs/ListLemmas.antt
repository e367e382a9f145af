-- Lists of places and what stands at them.
use Rattle.std.proofs.Common.{◌≡◌, ℕ, zero, suc, true, false, cond, List, [], ◌∷◌, ◌++◌, map, length, get_or, set, nat_lt, refl, ap}
use Rattle.std.proofs.lemmas.List.{map-set, length-map, map-append}
use Rattle.judy_hs.specs.LongGroups.{put_at}

-- The later of two elements written at a place stays.
pub set-twice : {X : Type 0} (xs : List X) (at : ℕ) (x y : X) → set (set xs at x) at y ≡ set xs at y
set-twice [] at x y = refl
set-twice (first ∷ rest) zero x y = refl
set-twice {X} (first ∷ rest) (suc at) x y = ap (λ (more : List X). first ∷ more) (set-twice rest at x y)

-- To write the element that stands there changes nothing.
pub set_same : {X : Type 0} (xs : List X) (at : ℕ) (x : X) → x ≡ get_or xs at x → set xs at x ≡ xs
set_same [] at x is = refl
set_same (first ∷ rest) zero x is = ap (λ first. first ∷ rest) is
set_same (first ∷ rest) (suc at) x is = ap (λ rest. first ∷ rest) (set_same rest at x is)

-- An element put at a place, as another function of the list sees it.
pub map-put : {X Y : Type 0} (f : X → Y) (xs : List X) (at : ℕ) (x : X) → map f (put_at xs at x) ≡ put_at (map f xs) at (f x)
map-put {X} {Y} f xs at x =
    let long : length (map f xs) ≡ length xs = length-map xs f in
    rw long (elim (nat_lt at (length xs)) as (λ b. map f (cond b (set xs at x) (xs ++ x ∷ [])) ≡ cond b (set (map f xs) at (f x)) (map f xs ++ f x ∷ [])) [
      | true ↦ map-set f xs at x
      | false ↦ map-append f xs (x ∷ [])
    ])
