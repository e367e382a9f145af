-- What an array is: a limit and a finite map from keys to words; and how the calls change it.
use Rattle.std.specs.Prelude.{◌≡◌, ℕ, ◌≤◌, Bool, not, ◌&&◌, ◌==◌, if◌then◌else◌, All, refl}
use Rattle.std.specs.declared.cmp.Ordering.{Ordering}
use Rattle.std.specs.FinMap.{FinMap, code, empty, contains_key, insert, remove, keys, values, len}
use Rattle.std.specs.Coded.{Coded, code_by, coded×, coded_ℕ}
use Rattle.judy_model.specs.Keys.{IsWord, IsStringKey, IsBytesKey, word_order, byte_order}

-- An array over keys in one order: how many keys it may hold, and the finite map from its keys to its
-- values. (The map is the manual's; the limit is this project's own.)
pub record ArrayOf {K : Type 0} (order : K → K → Ordering) : Type 0 where
  pub limit : ℕ
  pub map : FinMap order ℕ

module _ {K : Type 0} {order : K → K → Ordering} where
  -- An array is stored as the pair of its limit and its map.
  abbrev pub array_code : Coded K → Coded (ArrayOf order)
  array_code key_code =
      code_by (ℕ × FinMap order ℕ) (coded× coded_ℕ (code key_code coded_ℕ)) (λ array. (array.limit, array.map)) (λ pair. record { limit = pair.0; map = pair.1 }) (λ _. refl)

  -- The array that holds no key.
  abbrev pub empty_array : ℕ → ArrayOf order
  empty_array limit = record { limit = limit; map = empty }

  -- The array with another map, its limit as before.
  abbrev pub with_map : ArrayOf order → FinMap order ℕ → ArrayOf order
  with_map array map = record array { map = map }

  -- An insert leaves a map that holds the key as it is, and else adds the key with the value 0.
  -- (Manual: Ins, Set.)
  abbrev pub ins : FinMap order ℕ → K → FinMap order ℕ
  ins map key = if contains_key map key then map else insert map key 0

  -- Writing a value through the slot of a key changes the value of that key and nothing else.
  -- (Manual: the slot that Ins and Get answer.)
  abbrev pub write : FinMap order ℕ → K → ℕ → FinMap order ℕ
  write = insert

  -- A delete takes the key out, where it is there, and changes nothing else. (Manual: Del, Unset.)
  abbrev pub del : FinMap order ℕ → K → FinMap order ℕ
  del = remove

  -- An array is full for a key that it doesn't hold where it holds as many keys as its limit; for a key
  -- that it holds it is never full. (This project's own.)
  abbrev pub is_full : ArrayOf order → K → Bool
  is_full array key = not (contains_key array.map key) && (len array.map == array.limit)

  -- What every array keeps: a limit from 1 to 2^64 - 1, no more keys than that, each key of the array's
  -- sort and each value a word.
  pub record IsArrayOf (IsKey : K → Type 0) (array : ArrayOf order) : Type 0 where
    pub holds_some : 1 ≤ array.limit
    pub limit_is_word : IsWord array.limit
    pub within_limit : len array.map ≤ array.limit
    pub keys_are : All IsKey (keys array.map)
    pub values_are : All IsWord (values array.map)

-- An array of one of the four kinds. judy1 and judyl have words as keys, judysl and judyhs byte strings.
-- In judyhs the order serves the definitions alone: no call shows it.
pub data ArrayValue : Type 0 where
  judy1 : ArrayOf word_order → ArrayValue
  judyl : ArrayOf word_order → ArrayValue
  judysl : ArrayOf byte_order → ArrayValue
  judyhs : ArrayOf byte_order → ArrayValue

-- What each kind keeps beside. A judy1 array is read as the set of its keys: each value is 0.
abbrev pub IsArray : ArrayValue → Type 0
IsArray (judy1 set) = IsArrayOf IsWord set × All (λ value. value ≡ 0) (values set.map)
IsArray (judyl array) = IsArrayOf IsWord array
IsArray (judysl array) = IsArrayOf IsStringKey array
IsArray (judyhs array) = IsArrayOf IsBytesKey array

-- How many keys an array may hold.
abbrev pub limit_of : ArrayValue → ℕ
limit_of (judy1 set) = set.limit
limit_of (judyl array) = array.limit
limit_of (judysl array) = array.limit
limit_of (judyhs array) = array.limit

-- How many keys an array holds.
abbrev pub len_of : ArrayValue → ℕ
len_of (judy1 set) = len set.map
len_of (judyl array) = len array.map
len_of (judysl array) = len array.map
len_of (judyhs array) = len array.map

-- The array of the same kind and limit without a key. (Manual: FreeArray.)
abbrev pub emptied : ArrayValue → ArrayValue
emptied (judy1 set) = judy1 (empty_array set.limit)
emptied (judyl array) = judyl (empty_array array.limit)
emptied (judysl array) = judysl (empty_array array.limit)
emptied (judyhs array) = judyhs (empty_array array.limit)
