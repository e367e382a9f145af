-- The sums of numbers in groups of 64, of which the last one has what is left.
use Rattle.std.specs.Prelude.{◌≡◌, ◌≤◌, ◌+◌, ◌*◌, ◌/◌, ℕ, List, length, take}
use Rattle.std.specs.List.{sum}

-- How many groups there are for so many numbers.
abbrev pub groups_for : ℕ → ℕ
groups_for many = (many + 63) / 64

-- So many of the first groups are the sums of their numbers: whichever of them are added up, it is what their numbers add up to.
abbrev pub AreSums : ℕ → List ℕ → List ℕ → Type 0
AreSums many numbers groups = (at : ℕ) → at ≤ many → sum (take at groups) ≡ sum (take (64 * at) numbers)

-- All groups are, and there are as many as it takes.
pub record AreGroups (numbers groups : List ℕ) : Type 0 where
  pub many : length groups ≡ groups_for (length numbers)
  pub sums : AreSums (length groups) numbers groups
