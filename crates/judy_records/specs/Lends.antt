-- What a list of records becomes, for whatever is left in the slot of a value.
use Rattle.std.specs.Prelude.{ℕ}
use Rattle.std.specs.Borrow.{Lends, MutBor, Fml, u64}
use Rattle.judy_records.specs.Spots.{RecordList, with_value}
use Rattle.judy_records.specs.contracts.records.Records.{the_row}

-- The value at the place is the one last written through the slot, and all else stays.
abbrev pub LendsValue : MutBor RecordList → ℕ → MutBor ℕ → Fml
LendsValue list place slot = Lends the_row u64 list slot (with_value list.now place)
