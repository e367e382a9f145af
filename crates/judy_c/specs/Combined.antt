-- How a call of C that makes an array of two answers.
use Rattle.std.specs.Prelude.{◌≡◌, ℕ, zero, suc, ◌<◌, ◌≤◌, List, Option, Some, None, unwrap_or, Result, Ok, Err, MatchResult}
use Rattle.std.specs.FinMap.{FinMap, len}
use Rattle.std.specs.declared.cmp.Ordering.{Ordering}
use Rattle.judy_model.specs.Keys.{word_order, byte_order}
use Rattle.judy_model.specs.Arrays.{ArrayOf, with_map}
use Rattle.judy_model.specs.TwoMaps as two
use Rattle.judy_word.specs.WordArrays as words
use Rattle.judy_word.specs.WordArrays.{WordArray}
use Rattle.judy_word.specs.declared.error.InsertError.{InsertError}
use Rattle.judy_word.specs.declared.error.InsertError.TheVariants.{Full, NoMemory}
use Rattle.judy_c.specs.declared.combined.kinds.Joint.{Joint}
use Rattle.judy_c.specs.declared.combined.kinds.Joint.TheVariants.{Union, Intersection, Difference, SymmetricDifference}
use Rattle.judy_c.specs.declared.held.Held.{Held}
use Rattle.judy_c.specs.Sorted.{most_keys}
use Rattle.judy_c.specs.SortedStrings.{most_strings}

-- ---- arrays of two, of each kind whose keys have an order

-- How the definitions see the arrays of a kind: the order of their keys, their limits and maps, and how many keys one that is made may hold.
pub record CombinedKind (Array : Type 0) : Type 1 where
  pub Key : Type 0
  pub order : Key → Key → Ordering
  pub array : Array → ArrayOf order
  pub most : ℕ

abbrev pub combined_words : CombinedKind WordArray
combined_words = record { Key = ℕ; order = word_order; array = words.array_of; most = most_keys }

abbrev pub combined_strings : CombinedKind (ArrayOf byte_order)
combined_strings = record { Key = List ℕ; order = byte_order; array = λ array. array; most = most_strings }

-- The array of what is held, or the one that is told where none is.
abbrev pub stands_for : {Array : Type 0} → (kind : CombinedKind Array) → Array → Held Array → ArrayOf kind.order
stands_for kind without_keys held = kind.array (unwrap_or held.array without_keys)

-- What is made of two maps.
abbrev pub joined : {K : Type 0} → {order : K → K → Ordering} → Joint → FinMap order ℕ → FinMap order ℕ → FinMap order ℕ
joined Union one other = two.union one other
joined Intersection one other = two.intersection one other
joined Difference one other = two.difference one other
joined SymmetricDifference one other = two.symmetric_difference one other

-- An array is the map that is wanted, which has no more keys than an array may hold.
pub record IsNew {Array : Type 0} (kind : CombinedKind Array) (wanted : FinMap kind.order ℕ) (array : Array) : Type 0 where
  pub map : (kind.array array).map ≡ wanted
  pub limit : (kind.array array).limit ≡ kind.most
  pub within : len wanted ≤ kind.most

-- Full: it has more. NoMemory: it hasn't.
abbrev pub IsRefused : {K : Type 0} → {order : K → K → Ordering} → ℕ → FinMap order ℕ → InsertError → Type 0
IsRefused most wanted Full = most < len wanted
IsRefused most wanted NoMemory = len wanted ≤ most

-- The array, or why there is none.
abbrev pub IsMade : {Array : Type 0} → (kind : CombinedKind Array) → FinMap kind.order ℕ → Result Array InsertError → Type 0
IsMade kind wanted made = MatchResult made (IsNew kind wanted) (IsRefused kind.most wanted)

-- How an array that was made, or why there is none, is handed to a handle: it holds the array then where there is memory for its box.
abbrev pub IsTaken : {Array : Type 0} → Result Array InsertError → Option Array → Type 0 → ℕ → Type 0
IsTaken made held same zero = ⊥
IsTaken (Ok array) held same (suc zero) = held ≡ Some array
IsTaken (Err error) held same (suc zero) = ⊥
IsTaken (Ok array) held same (suc (suc zero)) = same
IsTaken (Err error) held same (suc (suc zero)) = (error ≡ NoMemory) × same
IsTaken (Ok array) held same (suc (suc (suc zero))) = ⊥
IsTaken (Err error) held same (suc (suc (suc zero))) = (error ≡ Full) × same
IsTaken made held same (suc (suc (suc (suc n)))) = ⊥

-- 1: the array has the keys and values that are wanted, and may hold the most keys. 2: they are no more than that, and there is no memory for
-- them. 3: they are more. In these two cases the array is as it was.
abbrev pub IsCombined : {K : Type 0} → {order : K → K → Ordering} → ℕ → FinMap order ℕ → ArrayOf order → Type 0 → ℕ → Type 0
IsCombined most wanted after same zero = ⊥
IsCombined most wanted after same (suc zero) = (after.map ≡ wanted) × (after.limit ≡ most)
IsCombined most wanted after same (suc (suc zero)) = (len wanted ≤ most) × same
IsCombined most wanted after same (suc (suc (suc zero))) = (most < len wanted) × same
IsCombined most wanted after same (suc (suc (suc (suc n)))) = ⊥

-- How a call answers that may want memory alone. 1: it is done. 2: there is none, and nothing changed.
abbrev pub IsDone : Type 0 → Type 0 → ℕ → Type 0
IsDone done same zero = ⊥
IsDone done same (suc zero) = done
IsDone done same (suc (suc zero)) = same
IsDone done same (suc (suc (suc n))) = ⊥

-- ---- parts of arrays of words

-- 1: the array has the keys and values that are wanted, and may hold as many keys as there are words, but one. 2: there is no memory for them, and it
-- is as it was.
abbrev pub IsCopied : FinMap word_order ℕ → ArrayOf word_order → Type 0 → ℕ → Type 0
IsCopied wanted after same answer = IsDone ((after.map ≡ wanted) × (after.limit ≡ most_keys)) same answer

-- The number of a change that may be refused.
abbrev pub change_number : Result Unit InsertError → ℕ
change_number (Ok done) = 1
change_number (Err NoMemory) = 2
change_number (Err Full) = 3

-- 1: the array has the keys that are wanted. 2: they are no more than its limit, and there is no memory for them. 3: they are more. In these two
-- cases it is as it was.
abbrev pub IsChanged : ArrayOf word_order → FinMap word_order ℕ → ArrayOf word_order → Type 0 → ℕ → Type 0
IsChanged before wanted after same zero = ⊥
IsChanged before wanted after same (suc zero) = after ≡ with_map before wanted
IsChanged before wanted after same (suc (suc zero)) = (len wanted ≤ before.limit) × same
IsChanged before wanted after same (suc (suc (suc zero))) = (before.limit < len wanted) × same
IsChanged before wanted after same (suc (suc (suc (suc n)))) = ⊥
