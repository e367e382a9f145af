-- What a page of records becomes, for whatever is left in the slot of a value.
use Rattle.std.specs.Prelude.{ℕ}
use Rattle.std.specs.Borrow.{Lends, MutBor, Fml, u64}
use Rattle.judy_records.specs.PageSpots.{PageList, with_value_in}
use Rattle.judy_records.specs.contracts.page.Page.{the_row}

-- The value at the place is the one last written through the slot, and all else stays.
abbrev pub LendsInPage : MutBor PageList → ℕ → MutBor ℕ → Fml
LendsInPage page place slot = Lends the_row u64 page slot (with_value_in page.now place)
