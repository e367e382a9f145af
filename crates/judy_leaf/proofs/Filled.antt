-- Pairs put in one after another.
use Rattle.std.proofs.Common.{◌≡◌, ℕ, zero, suc, ◌+◌, ◌-◌, ◌*◌, ◌/◌, ◌<◌, List, [], ◌∷◌, length, take, replicate, get_or, refl, ap, sym, ◌∙◌, subst, arith}
use Rattle.std.specs.List.{insert}
use Rattle.std.proofs.Math.Nat.{div-eq_of_lt}
use Rattle.judy_block.specs.Contents.{Contents}
use Rattle.judy_leaf.specs.Packing.{IsPacked, IsWidth}
use Rattle.judy_leaf.specs.Leaves.{words_for, AreKeysFrom}
use Rattle.judy_leaf.proofs.Placed.{per_pos}

-- One put after the first ones.
pub insert_last : {X : Type 0} (xs : List X) (at : ℕ) (d : X) → at < length xs → insert (take at xs) at (get_or xs at d) ≡ take (at + 1) xs
insert_last xs at d inside = last d xs at inside ∙ ap (λ n. take n xs) (let e : suc at ≡ at + 1 = omega arith in e)
  where
    last : {X : Type 0} (d : X) (xs : List X) (at : ℕ) → at < length xs → insert (take at xs) at (get_or xs at d) ≡ take (suc at) xs
    last d [] at inside = let never : ⊥ = omega arith in absurd never
    last d (x ∷ xs) zero inside = refl
    last d (x ∷ xs) (suc at) inside = ap (λ rest. x ∷ rest) (last d xs at (omega arith))
