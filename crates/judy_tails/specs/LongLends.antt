-- What the longer tails become, for whatever is left in the slot of a value.
use Rattle.std.specs.Prelude.{ℕ, List}
use Rattle.std.specs.Borrow.{Lends, MutBor, Fml, u64}
use Rattle.judy_tails.specs.Long.{LongList, with_value}
use Rattle.judy_tails.specs.contracts.long.LongTail as own
use Rattle.judy_tails.specs.contracts.long.LongTails.{the_row}

-- The tail keeps its text, and has the value last written.
abbrev pub LendsOwn : MutBor (List ℕ × ℕ) → MutBor ℕ → Fml
LendsOwn tail slot = Lends own.the_row u64 tail slot (λ value. (tail.now.0, value))

-- The value at the place is the one last written through the slot, and all else stays.
abbrev pub LendsValue : MutBor LongList → ℕ → MutBor ℕ → Fml
LendsValue tails place slot = Lends the_row u64 tails slot (with_value tails.now place)
