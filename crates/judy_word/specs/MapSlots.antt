-- What a map becomes, for whatever is left in the slot of a key.
use Rattle.std.specs.Prelude.{ℕ, Option}
use Rattle.std.specs.Borrow.{LendsIf, MutBor, Fml, u64}
use Rattle.judy_model.specs.Keys.{word_order}
use Rattle.judy_model.specs.Arrays.{ArrayOf}
use Rattle.judy_word.specs.Writes.{with_value}
use Rattle.judy_word.specs.contracts.word_map.WordMap.{the_row}

-- The map ends with the value that is left behind the slot written at the key, where there is a slot, and else it stays.
abbrev pub LendsSlot : MutBor (ArrayOf word_order) → ℕ → Option (MutBor ℕ) → Fml
LendsSlot array key slot = LendsIf the_row u64 array slot (with_value array.now key) array.now
