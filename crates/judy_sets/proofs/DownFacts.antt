-- The last of some pairs, turned round.
use Rattle.std.proofs.Common.{◌≡◌, ℕ, zero, suc, ◌+◌, ◌-◌, ◌≤◌, ◌<◌, List, [], ◌∷◌, ◌++◌, length, take, drop, map, reverse, None, slice_get, refl, sym, ap, ◌∙◌, arith}
use Rattle.std.proofs.lemmas.Option.{none-some}
use Rattle.std.proofs.lemmas.List.{reverse-append, length-reverse, length-drop, length-take-le, take-append-drop, drop-take, take_at, map-append}

module _ {A : Type 0} (xs : List A) (n count : ℕ) (few : count ≤ n) (within : n ≤ length xs) where
  -- Those of the first so many are the ones before them and these.
  parts : take n xs ≡ take (n - count) (take n xs) ++ take count (drop (n - count) xs)
  parts =
      let whole : n ≡ n - count + count = omega (arith, few) in
      sym (take-append-drop (n - count) (take n xs))
      ∙ ap (λ rest. take (n - count) (take n xs) ++ rest) (ap (λ m. drop (n - count) (take m xs)) whole ∙ drop-take (n - count) count xs)

  pub long : length (take count (drop (n - count) xs)) ≡ count
  long = let rest = length-drop (n - count) xs in length-take-le count (drop (n - count) xs) (omega (arith, few, within, rest))

  -- Turned round they come first.
  pub last_turned : take count (reverse (take n xs)) ≡ reverse (take count (drop (n - count) xs))
  last_turned =
      ap (λ front. take count (reverse front)) parts
      ∙ ap (take count) (reverse-append (take (n - count) (take n xs)) (take count (drop (n - count) xs)))
      ∙ take_at (reverse (take count (drop (n - count) xs))) (reverse (take (n - count) (take n xs))) count (length-reverse (take count (drop (n - count) xs)) ∙ long)

-- What is made of each is turned round with it.
pub made_turned : {A B : Type 0} (f : A → B) (xs : List A) → reverse (map f xs) ≡ map f (reverse xs)
made_turned f [] = refl
made_turned f (x ∷ xs) =
    reverse-append (f x ∷ []) (map f xs)
    ∙ ap (λ turned. turned ++ f x ∷ []) (made_turned f xs)
    ∙ sym (map-append f (reverse xs) (x ∷ []))
    ∙ ap (map f) (sym (reverse-append (x ∷ []) xs))

-- At a place within a list something stands.
pub stands : {A : Type 0} (xs : List A) (place : ℕ) → place < length xs → slice_get xs place ≡ None → ⊥
stands [] place inside none = omega (arith, inside)
stands (x ∷ xs) zero inside none = none-some x (sym none)
stands (x ∷ xs) (suc place) inside none = stands xs place (omega (arith, inside)) none
