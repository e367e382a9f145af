-- The place of an entry among others.
use Rattle.std.specs.Prelude.{ℕ, Bool, List}
use Rattle.std.specs.List.{position_or_len}
use Rattle.std.specs.Map.{keys_of}

-- The place of the first entry whose key passes a test; the number of entries where none does.
abbrev pub place_of : {K X : Type 0} → (K → Bool) → List (K × X) → ℕ
place_of test entries = position_or_len test (keys_of entries)
