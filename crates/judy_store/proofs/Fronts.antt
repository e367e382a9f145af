-- Fronts of three pieces that are written one behind the other.
use Rattle.std.proofs.Common.{◌≡◌, ℕ, List, ◌++◌, Option, refl}
use Rattle.judy_pipe.specs.Pipe.{grown, GrewByFront}
use Rattle.judy_shelf.specs.Writes.{Sunk, sunk}
use Rattle.judy_shelf.proofs.WriteLemmas.{wrote_both, wrote_first, wrote_second}

module _ (head subject tail : List ℕ) (before mid : Option (List ℕ)) (first : mid ≡ grown before head) where
  -- the first was written, and of the second a front
  pub front_of_second : (after : Option (List ℕ)) → GrewByFront mid subject after → GrewByFront before ((head ++ subject) ++ tail) after
  front_of_second after front =
      let ended : Sunk = sunk after 1 in
      (wrote_first (head ++ subject) tail (sunk before 0) ended (wrote_second head subject (sunk before 0) (sunk mid 0) ended (first, refl) (front, refl))).0

  -- two were written, and of the third a front
  pub front_of_third : (later after : Option (List ℕ)) → later ≡ grown mid subject → GrewByFront later tail after → GrewByFront before ((head ++ subject) ++ tail) after
  front_of_third later after second front =
      let both = wrote_both head subject (sunk before 0) (sunk mid 0) (sunk later 0) (first, refl) (second, refl) in
      (wrote_second (head ++ subject) tail (sunk before 0) (sunk later 0) (sunk after 1) both (front, refl)).0
