-- What a chain becomes, for whatever is left in the slot of a key.
use Rattle.std.specs.Prelude.{ℕ, List, Option}
use Rattle.std.specs.Borrow.{LendsIf, MutBor, Fml, u64}
use Rattle.judy_hs.specs.Chains.{Pairs, with_value}
use Rattle.judy_hs.specs.contracts.chain.Chain.{the_row}

-- It ends with the value that is left behind the slot of the key; where there is none, it stays.
abbrev pub LendsValue : MutBor Pairs → List ℕ → Option (MutBor ℕ) → Fml
LendsValue chain key slot = LendsIf the_row u64 chain slot (with_value chain.now key) chain.now
