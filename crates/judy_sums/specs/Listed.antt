-- Lists of sums under indices.
use Rattle.std.specs.Prelude.{◌≡◌, ◌≢◌, ℕ, List, Option, None, Some, slice_get}
use Rattle.std.specs.FinMap.{FinMap, get}
use Rattle.judy_model.specs.Keys.{word_order}
use Rattle.judy_sums.specs.Pairs.{raised, lowered}

-- What a row holds for an index: a list, or nothing.
abbrev pub list_in : Option (Option (FinMap word_order ℕ)) → Option (FinMap word_order ℕ)
list_in None = None
list_in (Some found) = found

abbrev pub list_at : List (Option (FinMap word_order ℕ)) → ℕ → Option (FinMap word_order ℕ)
list_at lists index = list_in (slice_get lists index)

-- All indices but one have what they had.
abbrev pub AreOthers : ℕ → List (Option (FinMap word_order ℕ)) → List (Option (FinMap word_order ℕ)) → Type 0
AreOthers index before after = (other : ℕ) → other ≢ index → list_at after other ≡ list_at before other

-- A list with one less at a word; where it hasn't the word it stays.
abbrev pub less_in : Option ℕ → FinMap word_order ℕ → ℕ → FinMap word_order ℕ
less_in None list word = list
less_in (Some number) list word = lowered list word

abbrev pub less_at : FinMap word_order ℕ → ℕ → FinMap word_order ℕ
less_at list word = less_in (get list word) list word

-- A list, where there is one, with one more at a word, and with one less.
abbrev pub more_of : Option (FinMap word_order ℕ) → ℕ → Option (FinMap word_order ℕ)
more_of None word = None
more_of (Some list) word = Some (raised list word)

abbrev pub less_of : Option (FinMap word_order ℕ) → ℕ → Option (FinMap word_order ℕ)
less_of None word = None
less_of (Some list) word = Some (less_at list word)
