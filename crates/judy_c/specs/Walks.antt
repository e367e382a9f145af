-- How a walk of C fills the caller's buffer.
use Rattle.std.specs.Prelude.{◌≡◌, ◌++◌, ℕ, List, length, take, drop, reverse, map, min}
use Rattle.std.specs.FinMap.{FinMap, keys, entries}
use Rattle.judy_model.specs.Keys.{word_order}
use Rattle.judy_model.specs.Counts.{rank, count_up_to}
use Rattle.judy_sets.specs.Downward.{up_to}
use Rattle.judy_c.specs.declared.walks.Pair.{Pair}

-- The keys from a word on.
abbrev pub keys_from : FinMap word_order ℕ → ℕ → List ℕ
keys_from map from = drop (rank map from) (keys map)

-- The keys up to a word, from the greatest down.
abbrev pub keys_down : FinMap word_order ℕ → ℕ → List ℕ
keys_down map from = reverse (take (count_up_to map from) (keys map))

-- Keys with their values, as C has them.
abbrev pub pairs_of : List (ℕ × ℕ) → List Pair
pairs_of entries = map (λ entry. record { key = entry.0; value = entry.1 }) entries

-- The keys from a word on with their values.
abbrev pub pairs_from : FinMap word_order ℕ → ℕ → List Pair
pairs_from map from = pairs_of (drop (rank map from) (entries map))

-- The keys up to a word with their values, from the greatest down.
abbrev pub pairs_down : FinMap word_order ℕ → ℕ → List Pair
pairs_down map from = pairs_of (reverse (up_to map from))

-- Of what is still to come, as many as fit are written to the beginning of the buffer, and counted. Behind them it stays.
abbrev pub IsFilled : {A : Type 0} → List A → List A → ℕ → List A → Type 0
IsFilled rest before count after = (count ≡ min (length before) (length rest)) × (after ≡ take count rest ++ drop count before)
