-- A shelf as the store of the definitions.
use Rattle.std.specs.Prelude.{ℕ, ◌≤◌, List, map, length, bytes_eq}
use Rattle.std.specs.List.{IsDistinct}
use Rattle.std.specs.Map.{keys_of}
use Rattle.judy_model.specs.Stores.{Store}
use Rattle.judy_shelf.specs.declared.array.Array.{Array}
use Rattle.judy_shelf.specs.Arrays.{value_of}

-- The pairs of a shelf: its names and arrays, in order of making.
abbrev pub Entries : Type 0
Entries = List (List ℕ × Array)

-- The store that a shelf is.
abbrev pub store_of : Entries → Store
store_of entries = map (λ entry. (entry.0, value_of entry.1)) entries

-- What every shelf keeps: at most 64 arrays, whose names differ.
pub record IsShelf (entries : Entries) : Type 0 where
  pub within_limit : length entries ≤ 64
  pub names_differ : IsDistinct bytes_eq (keys_of entries)
