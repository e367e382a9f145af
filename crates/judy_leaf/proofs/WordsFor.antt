-- How many words so many keys take.
use Rattle.std.proofs.Common.{ℕ, ◌+◌, ◌-◌, ◌*◌, ◌/◌, ◌<◌, ◌≤◌, ⊎_elim, arith}
use Rattle.std.proofs.Math.Nat.{mul-le-mul_left}
use Rattle.std.proofs.lemmas.Bool.{cases_lt}
use Rattle.std.proofs.lemmas.Nat.{mod_below, div-add-mod'}
use Rattle.judy_leaf.specs.Packing.{IsWidth}
use Rattle.judy_leaf.specs.Leaves.{words_for}
use Rattle.judy_leaf.proofs.Placed.{per_pos}

-- A quotient between two others.
below_product : (a b per : ℕ) → a * per < b * per + per → a ≤ b
below_product a b per less = ⊎_elim (λ h. omega arith) (λ h. let product = mul-le-mul_left per h in let never : ⊥ = omega arith in absurd never) (cases_lt a (b + 1))

module _ (width : ℕ) (is : IsWidth width) where
  -- They are enough, and one fewer isn't.
  pub enough : (count : ℕ) → count ≤ words_for width count * (8 / width)
  enough count = let some = per_pos width is in let whole = div-add-mod' (count + (8 / width - 1)) (8 / width) in let rest = mod_below (count + (8 / width - 1)) (8 / width) some in omega arith

  pub no_more : (count : ℕ) → words_for width count * (8 / width) < count + 8 / width
  no_more count = let some = per_pos width is in let whole = div-add-mod' (count + (8 / width - 1)) (8 / width) in omega arith

  pub words_grow : (count : ℕ) → words_for width count ≤ words_for width (count + 1)
  words_grow count = below_product (words_for width count) (words_for width (count + 1)) (8 / width) (let a = enough (count + 1) in let b = no_more count in omega arith)

  pub words_by_one : (count : ℕ) → words_for width (count + 1) ≤ words_for width count + 1
  words_by_one count =
      below_product (words_for width (count + 1)) (words_for width count + 1) (8 / width) (let some = per_pos width is in let a = enough count in let b = no_more (count + 1) in omega arith)

  pub words_up : (less more : ℕ) → less ≤ more → words_for width less ≤ words_for width more
  words_up less more up = below_product (words_for width less) (words_for width more) (8 / width) (let a = enough more in let b = no_more less in omega arith)
