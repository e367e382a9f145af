-- The keys of judyhs arrays in the order of a dump.
use Rattle.std.specs.Prelude.{◌≡◌, ℕ, List, [], ◌∷◌, map, IsSomeAnd, slice_get}
use Rattle.std.specs.List.{flat_map}
use Rattle.judy_model.specs.DumpText.{length_order, entries_by}
use Rattle.judy_hs.specs.Listed.{entries_in}
use Rattle.judy_shelf.specs.declared.array.Array.{Array}
use Rattle.judy_shelf.specs.declared.array.Array.TheVariants.{Judy1, JudyL, JudySl, JudyHs}
use Rattle.judy_shelf.specs.declared.kind.Kind.TheVariants as kind
use Rattle.judy_shelf.specs.declared.sorted.SortedKeys.{SortedKeys}
use Rattle.judy_shelf.specs.Arrays.{kind_of}
use Rattle.judy_shelf.specs.Shelves.{Entries}

-- The keys of a list, each with its value.
abbrev pub pairs_in : SortedKeys → List (List ℕ × ℕ)
pairs_in list = entries_in list.entries.items

-- Those of some lists.
abbrev pub lists_in : List SortedKeys → List (List (List ℕ × ℕ))
lists_in lists = map pairs_in lists

-- The one list that an array asks for, if it does.
abbrev pub sorted_in : Array → List (List (List ℕ × ℕ))
sorted_in (Judy1 set) = []
sorted_in (JudyL words) = []
sorted_in (JudySl strings) = []
sorted_in (JudyHs bytes) = entries_by length_order bytes.map ∷ []

-- The lists of all judyhs arrays, in the order of making.
abbrev pub sorted_lists : Entries → List (List (List ℕ × ℕ))
sorted_lists entries = flat_map (λ entry. sorted_in entry.1) entries

-- A judyhs array stands on a shelf.
abbrev pub HoldsBytes : Entries → Type 0
HoldsBytes entries = (place : ℕ) × IsSomeAnd (slice_get entries place) (λ entry. kind_of entry.1 ≡ kind.JudyHs)
