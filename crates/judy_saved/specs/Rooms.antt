-- Texts that are written into a room one behind the other, as far as they fit.
use Rattle.std.specs.Prelude.{◌≡◌, ℕ, ◌≤◌, ◌<◌, List, ◌++◌, length, drop}

-- A text stands in front of what a room had before, where it fits, and ends there.
pub record Stands (text before : List ℕ) (end : ℕ) (room : List ℕ) : Type 0 where
  pub ends : end ≡ length text
  pub same_length : length room ≡ length before
  pub written : end ≤ length before → room ≡ text ++ drop end before

-- Behind whatever stood there a text stands now.
abbrev pub Adds : List ℕ → ℕ → List ℕ → ℕ → List ℕ → Type 0
Adds text at before end after = (earlier first : List ℕ) → Stands earlier first at before → Stands (earlier ++ text) first end after

-- The size of a text is told; the text is written to the front of a room where it fits, and else the room is as it was.
pub record IsSaved (text before : List ℕ) (size : ℕ) (after : List ℕ) : Type 0 where
  pub size_is : size ≡ length text
  pub fits : size ≤ length before → after ≡ text ++ drop size before
  pub too_long : length before < size → after ≡ before
