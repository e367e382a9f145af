-- Where a key stands among ascending keys, or would stand.
use Rattle.std.specs.Prelude.{◌≡◌, ℕ, ◌+◌, ◌<◌, ◌≤◌, true, false, List, length, Some, Result, Ok, Err}
use Rattle.judy_bits.specs.ByteSets as set

-- What a search for a key answers: its place, or that it is absent and the place that it would have.
abbrev pub IsSearched : List ℕ → ℕ → Result ℕ ℕ → Type 0
IsSearched keys key (Ok at) = set.place keys key ≡ Some at
IsSearched keys key (Err at) = (set.has keys key ≡ false) × (at ≡ set.rank keys key)

-- A key's rank is one of so many places from one on, or their end.
abbrev pub IsRankWithin : List ℕ → ℕ → ℕ → ℕ → Type 0
IsRankWithin keys key from size = (from ≤ set.rank keys key) × (set.rank keys key ≤ from + size)

-- A key that is among the keys stands at one of so many places from one on, and at each of these stands a key.
abbrev pub IsWindow : List ℕ → ℕ → ℕ → ℕ → Type 0
IsWindow keys key from size = (from + size ≤ length keys)
    × (set.has keys key ≡ true → (from ≤ set.rank keys key) × (set.rank keys key < from + size))
