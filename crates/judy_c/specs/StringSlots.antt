-- What a handle of strings stands for, once the slot of a key that a call lent has ended.
use Rattle.std.specs.Prelude.{ℕ, List, Option, Result}
use Rattle.std.specs.Borrow.{Fml, MutBor}
use Rattle.judy_model.specs.Keys.{byte_order}
use Rattle.judy_model.specs.Arrays.{ArrayOf}
use Rattle.judy_sl.specs.Lends as lends
use Rattle.judy_sl.specs.contracts.keys.AnyLength as any
use Rattle.judy_sl.specs.contracts.keys.AnyLengthKeyLength.TheImpl as any_lengths
use Rattle.judy_c.specs.KeySlots as slots
use Rattle.judy_c.specs.declared.answers.InsertRefusal.{InsertRefusal}
use Rattle.judy_c.specs.declared.strings.Strings.{Strings}
use Rattle.judy_c.specs.contracts.strings.Strings.{the_row}
use Rattle.judy_c.specs.StringMaps.{array_in}

-- Of an array that a handle holds.
abbrev pub LendsSlotIn : MutBor (ArrayOf byte_order) → List ℕ → Option (MutBor ℕ) → Fml
LendsSlotIn = lends.LendsSlot any.the_row any_lengths.ghosts

-- Of the handle.
abbrev pub LendsSlotOf : MutBor Strings → List ℕ → Option (MutBor ℕ) → Fml
LendsSlotOf = slots.LendsSlotOf the_row array_in

abbrev pub LendsInsOf : MutBor Strings → List ℕ → Result (MutBor ℕ) InsertRefusal → Fml
LendsInsOf = slots.LendsInsOf the_row array_in

abbrev pub LendsAnswered : MutBor Strings → List ℕ → Option (Result (MutBor ℕ) InsertRefusal) → Fml
LendsAnswered = slots.LendsAnswered the_row array_in
