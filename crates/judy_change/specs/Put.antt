-- A key put into a tree, whatever becomes of the value of one that is there.
use Rattle.std.specs.Prelude.{◌≡◌, ℕ, Bool, true, false, Some}
use Rattle.judy_node.specs.Trees.{Tree}
use Rattle.judy_node.specs.Slots.{value_of, with_value}
use Rattle.judy_change.specs.Inserted.{has_key, IsAdded}
use Rattle.judy_change.specs.declared.present.Put.{Put}
use Rattle.judy_change.specs.declared.present.Put.TheVariants.{Added, There, Refused}

-- What becomes of a key that was there. Where its value is replaced, `was` is the one that was there, and it alone is another now; else
-- the tree is the old one, and `was` tells nothing.
abbrev pub IsThere : Bool → ℕ → ℕ → ℕ → Tree → Tree → Type 0
IsThere true key value was old new = (value_of key old.pairs ≡ Some was) × (new ≡ with_value old key value)
IsThere false key value was old new = (has_key key old ≡ true) × (new ≡ old)

-- What a way down answers and leaves. A key is refused only where it was absent, and then the tree is the old one, its form included.
abbrev pub IsPut : Bool → ℕ → ℕ → Tree → Tree → Put → Type 0
IsPut replaces key value old new Added = IsAdded key value old new
IsPut replaces key value old new (There was) = IsThere replaces key value was old new
IsPut replaces key value old new Refused = (has_key key old ≡ false) × (new ≡ old)
