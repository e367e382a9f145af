-- What stands at places: a tail, by its text and its value, or nothing.
use Rattle.std.specs.Prelude.{◌≡◌, ◌≢◌, ℕ, List, [], Option, None, Some}

-- The text of what stands at a place.
abbrev pub text_of : Option (List ℕ × ℕ) → List ℕ
text_of None = []
text_of (Some tail) = tail.0

-- One place has this, and all others what they had.
pub record UpdatesBy {Tails : Type 0} (at : Tails → ℕ → Option (List ℕ × ℕ)) (before after : Tails) (place : ℕ) (tail : Option (List ℕ × ℕ)) : Type 0 where
  pub here : at after place ≡ tail
  pub elsewhere : (other : ℕ) → other ≢ place → at after other ≡ at before other
