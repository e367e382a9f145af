-- How many keys begin with a piece, and what a list of sums holds of that.
use Rattle.std.specs.Prelude.{◌≡◌, ◌≤◌, ◌-◌, ◌==◌, ℕ, filter, length, Some}
use Rattle.std.specs.FinMap.{FinMap, get, keys}
use Rattle.judy_model.specs.Keys.{word_order, byte_order}
use Rattle.judy_sums.specs.Pairs.{number_at}
use Rattle.judy_sl.specs.Pieces.{piece_of}

-- How many keys of a map begin with a piece.
unfoldable pub beginning : FinMap byte_order ℕ → ℕ → ℕ
beginning map piece = length (filter (λ key. piece_of key == piece) (keys map))

-- Of each piece the list holds how many keys begin with it, less one; it holds no word whose number is 0.
pub record AreFirsts (map : FinMap byte_order ℕ) (firsts : FinMap word_order ℕ) : Type 0 where
  pub numbers : (piece : ℕ) → number_at firsts piece ≡ beginning map piece - 1
  pub some : (piece number : ℕ) → get firsts piece ≡ Some number → 1 ≤ number
