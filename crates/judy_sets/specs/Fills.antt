-- What an array that is filled gets.
use Rattle.std.specs.Prelude.{◌≡◌, ℕ, ◌==◌, ◌<◌, ◌≤◌, Bool, false, if◌then◌else◌, Option, None, Result, MatchResult, length, take, get_or}
use Rattle.std.specs.Ordering.{is_lt, is_le}
use Rattle.std.specs.Option.{option_or, option_map}
use Rattle.std.specs.FinMap.{FinMap, find, get, len}
use Rattle.judy_model.specs.Keys.{word_order}
use Rattle.judy_model.specs.Arrays.{ArrayOf}
use Rattle.judy_model.specs.Ranges.{within}
use Rattle.judy_node.specs.Trees.{Tree, IsTight}
use Rattle.judy_query.specs.Maps.{map_of}
use Rattle.judy_word.specs.WordArrays.{WordArray}
use Rattle.judy_word.specs.declared.error.InsertError.{InsertError}
use Rattle.judy_word.specs.declared.error.InsertError.TheVariants.{Full, NoMemory}
use Rattle.judy_combine.specs.declared.keep.Keep.{Keep}
use Rattle.judy_combine.specs.Merges.{Pairs, UpTo, pick}

-- What is put in for a value: 0 where keys have no words of value.
abbrev pub worth : ℕ → ℕ → ℕ
worth words value = if words == 0 then 0 else value

-- At each key the array has what it had, and else what is added.
pub record IsAdded (before after : ArrayOf word_order) (added : ℕ → Option ℕ) : Type 0 where
  pub limit : after.limit ≡ before.limit
  pub map : (key : ℕ) → get after.map key ≡ option_or (get before.map key) (added key)

-- The pairs were put in.
abbrev pub IsPut : ℕ → ArrayOf word_order → ArrayOf word_order → Pairs → Type 0
IsPut words before after pairs = IsAdded before after (λ key. option_map (worth words) (find word_order key pairs))

-- They were, where they are wanted.
abbrev pub IsRestPut : ℕ → Bool → ArrayOf word_order → ArrayOf word_order → Pairs → Type 0
IsRestPut words wanted before after pairs = IsAdded before after (λ key. if wanted then option_map (worth words) (find word_order key pairs) else None)

-- The first pairs, so many, are those whose keys aren't above a word.
pub record IsFront (to : ℕ) (pairs : Pairs) (count : ℕ) : Type 0 where
  pub within : count ≤ length pairs
  pub inside : UpTo to (take count pairs)
  pub next : count < length pairs → to < (get_or pairs count (0, 0)).0

-- The pairs whose keys aren't above a word were put in.
abbrev pub IsFrontPut : ℕ → ℕ → ArrayOf word_order → ArrayOf word_order → Pairs → Type 0
IsFrontPut words to before after pairs =
    IsAdded before after (λ key. if is_le (word_order key to) then option_map (worth words) (find word_order key pairs) else None)

-- The part of a map from one key to another was put in.
abbrev pub IsRangePut : ℕ → ArrayOf word_order → ArrayOf word_order → FinMap word_order ℕ → ℕ → ℕ → Type 0
IsRangePut words before after map from to = IsAdded before after (λ key. option_map (worth words) (get (within map from to) key))

-- The part of it below a key, or above one.
abbrev pub IsBelowPut : ℕ → ArrayOf word_order → ArrayOf word_order → FinMap word_order ℕ → ℕ → Type 0
IsBelowPut words before after map at = IsAdded before after (λ key. option_map (worth words) (if is_lt (word_order key at) then get map key else None))

abbrev pub IsAbovePut : ℕ → ArrayOf word_order → ArrayOf word_order → FinMap word_order ℕ → ℕ → Type 0
IsAbovePut words before after map at = IsAdded before after (λ key. option_map (worth words) (if is_lt (word_order at key) then get map key else None))

-- What is kept of two lists was put in.
abbrev pub IsFilled : ℕ → Keep → ArrayOf word_order → ArrayOf word_order → Pairs → Pairs → Type 0
IsFilled words keep before after one other = IsAdded before after (λ key. option_map (worth words) (pick keep (find word_order key one) (find word_order key other)))

-- A tight tree is a map.
pub record IsRootOf (wanted : FinMap word_order ℕ) (tree : Tree) : Type 0 where
  pub map : map_of tree.pairs ≡ wanted
  pub long : length tree.pairs ≡ len wanted
  pub tight : IsTight tree

-- Full: the map has more keys than the limit. NoMemory: it hasn't.
abbrev pub IsRefused : ℕ → FinMap word_order ℕ → InsertError → Type 0
IsRefused limit map Full = limit < len map
IsRefused limit map NoMemory = len map ≤ limit

-- A new array is a map within a limit, each node as small as its keys allow.
pub record IsNew (most : ℕ) (wanted : FinMap word_order ℕ) (array : WordArray) : Type 0 where
  pub limit : array.limit ≡ most
  pub map : array.map ≡ wanted
  pub tight : array.loose ≡ false
  pub within : len wanted ≤ most

-- What is answered where a new array is to be a map: it, or why there is none.
abbrev pub IsMade : ℕ → FinMap word_order ℕ → Result WordArray InsertError → Type 0
IsMade limit map result = MatchResult result (IsNew limit map) (IsRefused limit map)
