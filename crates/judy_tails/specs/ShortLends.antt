-- What the lists by length become, for whatever is left in the slot of a value.
use Rattle.std.specs.Prelude.{ℕ}
use Rattle.std.specs.Borrow.{Lends, MutBor, Fml, u64}
use Rattle.judy_tails.specs.Short.{ShortLists, with_value}
use Rattle.judy_tails.specs.contracts.short.ShortTails.{the_row}

-- The value at the place is the one last written through the slot, and all else stays.
abbrev pub LendsValue : MutBor ShortLists → ℕ → MutBor ℕ → Fml
LendsValue tails place slot = Lends the_row u64 tails slot (with_value tails.now place)
