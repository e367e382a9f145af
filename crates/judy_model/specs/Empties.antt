-- The neighbours of a word among the words that are no keys of a map.
-- (Manual: FirstEmpty, NextEmpty, LastEmpty, PrevEmpty.)
use Rattle.std.specs.Prelude.{ℕ, ◌^◌, not, List, Option, filter}
use Rattle.std.specs.List.{range_with_len}
use Rattle.std.specs.FinMap.{FinMap, contains_key}
use Rattle.judy_model.specs.Keys.{word_order}
use Rattle.judy_model.specs.Neighbours.{first_of, next_of, last_of, prev_of}

-- The numbers below a bound, in ascending order.
unfoldable pub numbers_below : ℕ → List ℕ
numbers_below bound = range_with_len 0 bound

-- The words that are no keys of the map, in ascending order.
unfoldable pub empties : FinMap word_order ℕ → List ℕ
empties map = filter (λ word. not (contains_key map word)) (numbers_below (2 ^ 64))

-- The least of these words that isn't below a word.
unfoldable pub first_empty : FinMap word_order ℕ → ℕ → Option ℕ
first_empty map = first_of word_order (empties map)

-- The least that is above it.
unfoldable pub next_empty : FinMap word_order ℕ → ℕ → Option ℕ
next_empty map = next_of word_order (empties map)

-- The greatest that isn't above it.
unfoldable pub last_empty : FinMap word_order ℕ → ℕ → Option ℕ
last_empty map = last_of word_order (empties map)

-- The greatest that is below it.
unfoldable pub prev_empty : FinMap word_order ℕ → ℕ → Option ℕ
prev_empty map = prev_of word_order (empties map)
