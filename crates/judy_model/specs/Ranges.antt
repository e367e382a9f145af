-- The part of a map from one key to another, both included, what lies outside, and what lies on either side of a key.
-- (The manual counts a range; to take it out, to keep it and to turn it round is this project's own.)
use Rattle.std.specs.Prelude.{ℕ, suc, ◌-◌, ◌&&◌, not, List, length, filter, map, ◌++◌}
use Rattle.std.specs.List.{range_with_len}
use Rattle.std.specs.declared.cmp.Ordering.{Ordering}
use Rattle.std.specs.Ordering.{is_lt, is_le, is_ge}
use Rattle.std.specs.FinMap.{FinMap, entries, from_entries, retain_keys, contains_key}
use Rattle.judy_model.specs.Keys.{word_order}

module _ {K : Type 0} {order : K → K → Ordering} where
  -- The keys from the one to the other, with their values. There are none where the first is above the second.
  unfoldable pub within : FinMap order ℕ → K → K → FinMap order ℕ
  within map from to = retain_keys map (λ key. is_le (order from key) && is_le (order key to))

  -- All other keys, with their values.
  unfoldable pub outside : FinMap order ℕ → K → K → FinMap order ℕ
  outside map from to = retain_keys map (λ key. not (is_le (order from key) && is_le (order key to)))

  -- The keys below the given one.
  unfoldable pub below : FinMap order ℕ → K → FinMap order ℕ
  below map at = retain_keys map (λ key. is_lt (order key at))

  -- The keys at or above it.
  unfoldable pub from_on : FinMap order ℕ → K → FinMap order ℕ
  from_on map at = retain_keys map (λ key. is_ge (order key at))

-- The words from the one to the other, both included, in ascending order.
unfoldable pub words_between : ℕ → ℕ → List ℕ
words_between from to = range_with_len from (suc to - from)

-- Those of them that are no keys of the map.
unfoldable pub empties_between : FinMap word_order ℕ → ℕ → ℕ → List ℕ
empties_between map from to = filter (λ word. not (contains_key map word)) (words_between from to)

-- How many those are.
unfoldable pub count_empty : FinMap word_order ℕ → ℕ → ℕ → ℕ
count_empty map from to = length (empties_between map from to)

-- Words as the keys of a set.
abbrev pub zeroed : List ℕ → List (ℕ × ℕ)
zeroed words = map (λ word. (word, 0)) words

-- A set with each word of the range.
unfoldable pub filled : FinMap word_order ℕ → ℕ → ℕ → FinMap word_order ℕ
filled set from to = from_entries (entries set ++ zeroed (words_between from to))

-- A set with the range turned round: each of its words is there where it wasn't, and isn't where it was.
unfoldable pub flipped : FinMap word_order ℕ → ℕ → ℕ → FinMap word_order ℕ
flipped set from to = from_entries (entries (outside set from to) ++ zeroed (empties_between set from to))
