-- The array that a handle stands for.
use Rattle.std.specs.Prelude.{ℕ, Option, Some, None, unwrap_or}
use Rattle.std.specs.FinMap.{FinMap, get}
use Rattle.judy_c.specs.declared.held.Held.{Held}
use Rattle.judy_c.specs.declared.map.Map.{Map}
use Rattle.judy_c.specs.declared.set.Set.{Set}
use Rattle.judy_c.specs.NullArrays.{unbounded}
use Rattle.judy_model.specs.Keys.{word_order}
use Rattle.judy_model.specs.Arrays.{ArrayOf}
use Rattle.judy_word.specs.WordArrays as words
use Rattle.judy_word.specs.WordArrays.{WordArray}

-- The array that a handle holds; one that holds none stands for the empty array that may hold any number of keys.
abbrev pub array_of : Option WordArray → WordArray
array_of held = unwrap_or held unbounded

-- The map of a handle.
abbrev pub map_of : Map → FinMap word_order ℕ
map_of handle = (array_of handle.array).map

-- The set of a handle, as the map whose every value is 0.
abbrev pub set_of : Set → FinMap word_order ℕ
set_of handle = (array_of handle.array).map

-- The same arrays with their limits: how many keys each may hold.
abbrev pub array_in_map : Map → ArrayOf word_order
array_in_map handle = words.array_of (array_of handle.array)

abbrev pub array_in_set : Set → ArrayOf word_order
array_in_set handle = words.array_of (array_of handle.array)

-- The same of what either holds.
abbrev pub map_held : Held WordArray → FinMap word_order ℕ
map_held held = (array_of held.array).map

abbrev pub array_held : Held WordArray → ArrayOf word_order
array_held held = words.array_of (array_of held.array)

-- The value of the key that was found; none where none was.
abbrev pub value_beside : FinMap word_order ℕ → Option ℕ → Option ℕ
value_beside map None = None
value_beside map (Some key) = get map key
