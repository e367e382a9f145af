-- What is answered where a new array is to be a map.
use Rattle.std.specs.Prelude.{◌≡◌, ℕ, ◌<◌, ◌≤◌, Result, MatchResult}
use Rattle.std.specs.FinMap.{FinMap, len}
use Rattle.judy_model.specs.Keys.{byte_order}
use Rattle.judy_model.specs.Arrays.{ArrayOf}
use Rattle.judy_word.specs.declared.error.InsertError.{InsertError}
use Rattle.judy_word.specs.declared.error.InsertError.TheVariants.{Full, NoMemory}

-- Full: the map has more keys than the limit. NoMemory: it hasn't.
abbrev pub IsRefused : ℕ → FinMap byte_order ℕ → InsertError → Type 0
IsRefused limit map Full = limit < len map
IsRefused limit map NoMemory = len map ≤ limit

-- The array is the map within a limit.
pub record IsNew (most : ℕ) (wanted : FinMap byte_order ℕ) (array : ArrayOf byte_order) : Type 0 where
  pub limit : array.limit ≡ most
  pub map : array.map ≡ wanted
  pub within : len wanted ≤ most

-- It, or why there is none.
abbrev pub IsMade : ℕ → FinMap byte_order ℕ → Result (ArrayOf byte_order) InsertError → Type 0
IsMade limit map result = MatchResult result (IsNew limit map) (IsRefused limit map)
