-- When an insert is refused.
use Rattle.std.specs.Prelude.{◌≡◌, ◌<◌, ◌≤◌, ℕ, None, IsTrue, IsFalse}
use Rattle.std.specs.FinMap.{get, len}
use Rattle.judy_model.specs.Keys.{word_order}
use Rattle.judy_model.specs.Arrays.{ArrayOf, is_full}
use Rattle.judy_word.specs.declared.error.InsertError.{InsertError}
use Rattle.judy_word.specs.declared.error.InsertError.TheVariants.{Full, NoMemory}

-- Full: the key is absent, and the array holds as many keys as its limit. NoMemory: the key is absent, and
-- the array isn't full.
abbrev pub IsRefusal : ArrayOf word_order → ℕ → InsertError → Type 0
IsRefusal array key Full = IsTrue (is_full array key)
IsRefusal array key NoMemory = (get array.map key ≡ None) × IsFalse (is_full array key)

-- The same of many keys. Full: the array that they come to holds more than its limit. NoMemory: it doesn't.
abbrev pub IsRefusalOfAll : ArrayOf word_order → InsertError → Type 0
IsRefusalOfAll array Full = array.limit < len array.map
IsRefusalOfAll array NoMemory = len array.map ≤ array.limit
