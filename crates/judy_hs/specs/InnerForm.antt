-- What shows of the inner form of an array: the lengths of its keys, and the group of each length.
use Rattle.std.specs.Prelude.{◌≡◌, ◌↔◌, ℕ, List, length, Some, IsTrue}
use Rattle.std.specs.FinMap.{FinMap, get, contains_key}
use Rattle.judy_model.specs.Keys.{word_order, byte_order}
use Rattle.judy_model.specs.WordBytes.{number_of}

-- Some key has that length.
abbrev pub HasLength : FinMap byte_order ℕ → ℕ → Type 0
HasLength map n = (key : List ℕ) × (value : ℕ) × (length key ≡ n) × (get map key ≡ Some value)

-- The keys are exactly the lengths of the keys of the map.
abbrev pub IsLengths : FinMap byte_order ℕ → FinMap word_order ℕ → Type 0
IsLengths map lengths = (n : ℕ) → IsTrue (contains_key lengths n) ↔ HasLength map n

-- A word has a value exactly where a key of that length that spells it has this value.
abbrev pub IsShortGroup : FinMap byte_order ℕ → ℕ → FinMap word_order ℕ → Type 0
IsShortGroup map n group = (word value : ℕ) → (get group word ≡ Some value) ↔ ((key : List ℕ) × (length key ≡ n) × (number_of key ≡ word) × (get map key ≡ Some value))

-- The keys are exactly the hashes of the keys of that length.
abbrev pub IsLongGroup : (List ℕ → ℕ) → FinMap byte_order ℕ → ℕ → FinMap word_order ℕ → Type 0
IsLongGroup hash_of map n group = (word : ℕ) → IsTrue (contains_key group word) ↔ ((key : List ℕ) × (value : ℕ) × (length key ≡ n) × (hash_of key ≡ word) × (get map key ≡ Some value))
