-- How a call of C tells the values of many keys, or whether they are there.
use Rattle.std.specs.Prelude.{ℕ, List, Option, Some, None, Bool, map, if◌then◌else◌}
use Rattle.std.specs.FinMap.{FinMap, get, contains_key}
use Rattle.judy_model.specs.Keys.{word_order}
use Rattle.judy_c.specs.declared.looks.Found.{Found}

-- What is told of a key: 1 and its value where it is there, 0 and 0 where it isn't.
abbrev pub found_of : Option ℕ → Found
found_of None = record { value = 0; there = 0 }
found_of (Some value) = record { value = value; there = 1 }

-- The same of a key of a map.
abbrev pub found_at : FinMap word_order ℕ → ℕ → Found
found_at pairs key = found_of (get pairs key)

-- What is told of keys, of each by itself.
abbrev pub found_in : FinMap word_order ℕ → List ℕ → List Found
found_in pairs keys = map (found_at pairs) keys

-- Whether a key is there, as C is told.
abbrev pub byte_of : Bool → ℕ
byte_of there = if there then 1 else 0

-- The same of a key of a set.
abbrev pub there_at : FinMap word_order ℕ → ℕ → ℕ
there_at pairs key = byte_of (contains_key pairs key)

-- The same of keys, of each by itself.
abbrev pub there_in : FinMap word_order ℕ → List ℕ → List ℕ
there_in pairs keys = map (there_at pairs) keys
