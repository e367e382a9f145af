-- What becomes of what a handle holds, for whatever is left in the array that is lent.
use Rattle.std.specs.Prelude.{Option, Some, Result}
use Rattle.std.specs.Borrow.{Fml, MutBor, RattleType, Lends}
use Rattle.std.specs.declared.alloc.AllocError.{AllocError}
use Rattle.judy_c.specs.declared.held.Held.{Held}
use Rattle.judy_c.specs.contracts.held.Held.{the_row}
use Rattle.judy_c.specs.HandleLends as handles

-- The same with an array.
abbrev pub with_array : {A : Type 0} → Held A → A → Held A
with_array h a = record h { array = Some a }

-- It ends with the array that is left.
abbrev pub lends_array : (T : RattleType) → MutBor (Held T.Denot) → MutBor T.Denot → Fml
lends_array T held array = Lends (the_row T) T held array (with_array held.now)

-- The same where there is one, and else it stays.
abbrev pub lends_if_held : (T : RattleType) → MutBor (Held T.Denot) → Option (MutBor T.Denot) → Fml
lends_if_held T = handles.lends_if_held (the_row T) T with_array

-- The same of one that was there or made. It stays where the array is left as it was there, and where there is no memory for one.
abbrev pub lends_made : (T : RattleType) → MutBor (Held T.Denot) → Result (MutBor T.Denot) AllocError → Fml
lends_made T = handles.lends_made (the_row T) T (λ held. held.array)
