-- What it is for one byte string to be before another, place by place.
use Rattle.std.specs.Prelude.{◌≡◌, ℕ, ◌<◌, List, [], ◌∷◌, ◌++◌}

-- Behind a front that both share, the left one has the smaller byte. How long they are doesn't matter.
pub record DiffersBelow (left right : List ℕ) : Type 0 where
  pub front : List ℕ
  pub left_byte : ℕ
  pub right_byte : ℕ
  pub left_rest : List ℕ
  pub right_rest : List ℕ
  pub left_is : left ≡ front ++ left_byte ∷ left_rest
  pub right_is : right ≡ front ++ right_byte ∷ right_rest
  pub below : left_byte < right_byte

-- The right one is the left one and goes on.
pub record IsProperPrefix (left right : List ℕ) : Type 0 where
  pub byte : ℕ
  pub rest : List ℕ
  pub goes_on : right ≡ left ++ byte ∷ rest

-- A string as the manual stores it: a zero byte ends it.
abbrev pub ended_by_zero : List ℕ → List ℕ
ended_by_zero bytes = bytes ++ 0 ∷ []
