-- The keys up to a word, and those from one on.
use Rattle.std.specs.Prelude.{◌≡◌, ◌≤◌, ℕ, List, length, take, drop}
use Rattle.std.specs.FinMap.{FinMap, entries}
use Rattle.judy_model.specs.Keys.{word_order}
use Rattle.judy_model.specs.Counts.{rank, count_up_to}
use Rattle.judy_leaf.specs.Fills.{made_of}

-- Those of a map up to a word, each with its value, in ascending order.
abbrev pub up_to : FinMap word_order ℕ → ℕ → List (ℕ × ℕ)
up_to map from = take (count_up_to map from) (entries map)

-- Those from it on.
abbrev pub on_from : FinMap word_order ℕ → ℕ → List (ℕ × ℕ)
on_from map from = drop (rank map from) (entries map)

-- A slice is filled with what stands for the first of some pairs, where they are enough.
abbrev pub IsFull : {E : Type 0} → (ℕ → ℕ → E) → List (ℕ × ℕ) → List E → List E → Type 0
IsFull made pairs before after = length before ≤ length pairs → after ≡ made_of made (take (length before) pairs)
