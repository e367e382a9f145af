-- What a group becomes, for whatever is left in the slot of a key.
use Rattle.std.specs.Prelude.{ℕ, List, Option}
use Rattle.std.specs.Borrow.{LendsIf, MutBor, Fml, u64}
use Rattle.judy_word.specs.Writes.{with_value}
use Rattle.judy_hs.specs.LongGroups.{long_with}
use Rattle.judy_hs.specs.declared.group.Inside.{Inside}
use Rattle.judy_hs.specs.declared.group.Inside.TheVariants.{Word, Chained}
use Rattle.judy_hs.specs.declared.group.GroupPlace.{GroupPlace}
use Rattle.judy_hs.specs.declared.group.GroupPlace.TheVariants.{Free, Short, Long}
use Rattle.judy_hs.specs.contracts.group.GroupPlace.{the_row}

-- The place with a value for the key there.
abbrev pub place_with : GroupPlace → Inside → List ℕ → ℕ → GroupPlace
place_with (Free next) inside key value = Free next
place_with (Short words) (Word word) key value = Short (with_value words word value)
place_with (Short words) (Chained place) key value = Short words
place_with (Long group) (Word word) key value = Long group
place_with (Long group) (Chained place) key value = Long (long_with group place key value)

-- It ends with the value that is left behind the slot there; where there is none, it stays.
abbrev pub LendsInside : MutBor GroupPlace → Inside → List ℕ → Option (MutBor ℕ) → Fml
LendsInside group inside key slot = LendsIf the_row u64 group slot (place_with group.now inside key) group.now
