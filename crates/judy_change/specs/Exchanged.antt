-- A key given a value, whether it was there or not.
use Rattle.std.specs.Prelude.{◌≡◌, ℕ, false, Option, Some, None, Result, Ok, Err}
use Rattle.judy_node.specs.Trees.{Tree}
use Rattle.judy_node.specs.Slots.{value_of, with_value}
use Rattle.judy_change.specs.Inserted.{has_key, IsAdded}

-- What it answers and leaves: the value that was there, which alone is another now; none where the key was absent, and was added; an
-- error, for an absent key alone, and then the tree is the old one, its form included.
abbrev pub IsExchanged : {E : Type 0} → ℕ → ℕ → Tree → Tree → Result (Option ℕ) E → Type 0
IsExchanged key value old new (Ok None) = IsAdded key value old new
IsExchanged key value old new (Ok (Some was)) = (value_of key old.pairs ≡ Some was) × (new ≡ with_value old key value)
IsExchanged key value old new (Err refused) = (has_key key old ≡ false) × (new ≡ old)
