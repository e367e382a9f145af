-- What a group of long keys becomes, for whatever is left in the slot of a key.
use Rattle.std.specs.Prelude.{ℕ, List, Option}
use Rattle.std.specs.Borrow.{LendsIf, MutBor, Fml, u64}
use Rattle.judy_hs.specs.LongGroups.{Long, long_with}
use Rattle.judy_hs.specs.contracts.long_group.LongGroup.{the_row}

-- The group ends with the value that is left behind the slot in the chain at the place; where there is none, it stays.
abbrev pub LendsLong : MutBor Long → ℕ → List ℕ → Option (MutBor ℕ) → Fml
LendsLong group place key slot = LendsIf the_row u64 group slot (long_with group.now place key) group.now
