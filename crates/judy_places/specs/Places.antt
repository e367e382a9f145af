-- A list of places, some taken and some free. The free ones are linked: the first one is known, and each holds the
-- place that is first once it is taken.
use Rattle.std.specs.Prelude.{◌≡◌, ℕ, zero, suc, ◌-◌, ◌≤◌, ◌⊎◌, List, [], ◌∷◌, ◌++◌, length, get_or, set, Option, None, Some}

-- What each place holds where it is free, the place that it is linked to, and nothing where it is taken.
abbrev pub Links : Type 0
Links = List (Option ℕ)

-- No place is free.
abbrev pub AllTaken : Links → Type 0
AllTaken links = (at : ℕ) → get_or links at None ≡ None

-- So many places are free, and all are found: none is; or the first one is, and once it is taken, one fewer are, from
-- its link on.
abbrev pub AreLinked : ℕ → Links → ℕ → Type 0
AreLinked zero links first = AllTaken links
AreLinked (suc count) links first = (next : ℕ) × (get_or links first None ≡ Some next) × AreLinked count (set links first None) next

-- Each free place is found, so none is lost.
abbrev pub NoneLost : Links → ℕ → Type 0
NoneLost links first = (count : ℕ) × AreLinked count links first

-- How many places are free.
abbrev pub free_places : Links → ℕ
free_places [] = 0
free_places (None ∷ rest) = free_places rest
free_places (Some next ∷ rest) = suc (free_places rest)

-- How many places are taken.
abbrev pub taken_places : Links → ℕ
taken_places links = length links - free_places links

-- The place that is taken next, and the one that is first then: the first free one and its link; or, where none is
-- free, the end.
abbrev pub IsNextPlace : Links → ℕ → ℕ → ℕ → Type 0
IsNextPlace links first place next = ((get_or links first None ≡ Some next) × (place ≡ first)) ⊎ ((get_or links first None ≡ None) × (place ≡ length links) × (next ≡ first))

-- A place was taken: the first free one; or, where none is free, a new one at the end.
abbrev pub IsPlaceTaken : Links → ℕ → Links → ℕ → Type 0
IsPlaceTaken before first after next = ((get_or before first None ≡ Some next) × (after ≡ set before first None)) ⊎ ((get_or before first None ≡ None) × (after ≡ before ++ None ∷ []) × (next ≡ first))

-- Places were taken: no free place was lost, none became free, and the list is no longer than before, unless all its
-- places are taken.
pub record AreReused (before : Links) (first : ℕ) (after : Links) (next : ℕ) : Type 0 where
  pub kept : NoneLost before first → NoneLost after next
  pub full : AllTaken before → AllTaken after
  pub tight : NoneLost before first → (length after ≤ length before) ⊎ AllTaken after

-- Places became free: no free place was lost, and the list is as long as before.
pub record AreFreed (before : Links) (first : ℕ) (after : Links) (next : ℕ) : Type 0 where
  pub kept : NoneLost before first → NoneLost after next
  pub long : length after ≡ length before
