-- What a handle of bytes stands for, once the slot of a key that a call lent has ended.
use Rattle.std.specs.Prelude.{ℕ, List, Option, Result}
use Rattle.std.specs.Borrow.{Fml, MutBor}
use Rattle.judy_c.specs.KeySlots as slots
use Rattle.judy_c.specs.declared.answers.InsertRefusal.{InsertRefusal}
use Rattle.judy_c.specs.declared.bytes.Bytes.{Bytes}
use Rattle.judy_c.specs.contracts.bytes.Bytes.{the_row}
use Rattle.judy_c.specs.ByteMaps.{array_in}

abbrev pub LendsSlotOf : MutBor Bytes → List ℕ → Option (MutBor ℕ) → Fml
LendsSlotOf = slots.LendsSlotOf the_row array_in

abbrev pub LendsInsOf : MutBor Bytes → List ℕ → Result (MutBor ℕ) InsertRefusal → Fml
LendsInsOf = slots.LendsInsOf the_row array_in

abbrev pub LendsAnswered : MutBor Bytes → List ℕ → Option (Result (MutBor ℕ) InsertRefusal) → Fml
LendsAnswered = slots.LendsAnswered the_row array_in
