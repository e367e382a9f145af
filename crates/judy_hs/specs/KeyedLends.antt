-- What the groups become, for whatever is left in the slot of a key.
use Rattle.std.specs.Prelude.{ℕ, List, Option, Result}
use Rattle.std.specs.Borrow.{LendsIf, LendsIfOk, MutBor, Fml, u64}
use Rattle.judy_hs.specs.Keyed.{Keyed, keyed_with}
use Rattle.judy_hs.specs.declared.group.Inside.{Inside}
use Rattle.judy_hs.specs.declared.error.HsError.{HsError}
use Rattle.judy_hs.specs.contracts.groups.Groups.{the_row}

-- They end with the value that is left behind the slot there; where there is none, they stay.
abbrev pub LendsSpot : MutBor Keyed → ℕ → Inside → List ℕ → Option (MutBor ℕ) → Fml
LendsSpot groups place inside key slot = LendsIf the_row u64 groups slot (keyed_with groups.now place inside key) groups.now

-- The same where the answer is Ok.
abbrev pub LendsSpotOk : MutBor Keyed → ℕ → Inside → List ℕ → Result (MutBor ℕ) HsError → Fml
LendsSpotOk groups place inside key slot = LendsIfOk the_row u64 groups slot (keyed_with groups.now place inside key) groups.now
