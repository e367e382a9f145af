-- What a handle of one type becomes, for whatever is left in what it lends, an array of the other or what it holds of such.
use Rattle.std.specs.Prelude.{◌≡◌, Option, Some, Result}
use Rattle.std.specs.Borrow.{Fml, MutBor, RattleType, Lends, LendsIf, LendsSoOk}
use Rattle.std.specs.declared.alloc.AllocError.{AllocError}
use Rattle.judy_c.specs.declared.held.Held.{Held}
use Rattle.judy_c.specs.contracts.held.Held.{the_row as held_row}

module _ (H T : RattleType) where
  -- It ends with what is left in what it holds.
  abbrev pub lends_held : (Held T.Denot → H.Denot) → MutBor H.Denot → MutBor (Held T.Denot) → Fml
  lends_held holding handle held = Lends H (held_row T) handle held holding

  -- It ends with the array that is left, where it holds one, and else it stays.
  abbrev pub lends_if_held : (H.Denot → T.Denot → H.Denot) → MutBor H.Denot → Option (MutBor T.Denot) → Fml
  lends_if_held with handle array = LendsIf H T handle array (with handle.now) handle.now

  -- The same of one that was held or made. It stays where the array is left as it was held, and where there is no memory for one.
  abbrev pub lends_made : (H.Denot → Option T.Denot) → MutBor H.Denot → Result (MutBor T.Denot) AllocError → Fml
  lends_made held handle array = LendsSoOk H T handle array (λ after a. (held after ≡ Some a) × (held handle.now ≡ Some a → after ≡ handle.now)) (λ after. after ≡ handle.now)
