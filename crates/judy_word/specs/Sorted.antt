-- Lists of keys of which arrays are made at once.
use Rattle.std.specs.Prelude.{◌≡◌, ℕ, suc, ◌<◌, ◌≤◌, if◌then◌else◌, List, [], ◌∷◌, length, map}
use Rattle.std.specs.List.{AllByRecursion}
use Rattle.std.specs.Ordering.{is_le}
use Rattle.judy_model.specs.Keys.{IsWord, word_order}
use Rattle.judy_word.specs.declared.sorted.SortedError.{SortedError}
use Rattle.judy_word.specs.declared.sorted.SortedError.TheVariants.{NotAscending, Full, NoMemory}

-- How many of the first keys strictly ascend from a word on: as far as each is at it, or above the one before.
abbrev pub ascending_from : ℕ → List ℕ → ℕ
ascending_from low [] = 0
ascending_from low (key ∷ keys) = if is_le (word_order low key) then suc (ascending_from (suc key) keys) else 0

-- The keys of items with their values.
abbrev pub pairs_in : {A : Type 0} → (A → ℕ) → (A → ℕ) → List A → List (ℕ × ℕ)
pairs_in key_of value_of items = map (λ item. (key_of item, value_of item)) items

-- The keys are words, they strictly ascend, and are no more than a limit.
pub record IsSorted (limit : ℕ) (keys : List ℕ) : Type 0 where
  pub words : AllByRecursion IsWord keys
  pub ascending : ascending_from 0 keys ≡ length keys
  pub within : length keys ≤ limit

-- What is wrong with the first key that doesn't fit. NotAscending: it isn't above the one before it, and those before it ascend and are
-- no more than the limit. Full: it ascends, and is one more than the limit. NoMemory: nothing is.
abbrev pub IsFault : ℕ → List ℕ → SortedError → Type 0
IsFault limit keys (NotAscending at) = (ascending_from 0 keys ≡ at) × (at < length keys) × (at ≤ limit)
IsFault limit keys (Full at) = (at ≡ limit) × (limit < ascending_from 0 keys)
IsFault limit keys NoMemory = IsSorted limit keys
