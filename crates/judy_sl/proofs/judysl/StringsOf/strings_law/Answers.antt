use Rattle.judy_sl.proofs.lemmas.seats.Words.{strings-kept}
use Rattle.judy_sl.proofs.judysl.StringsOf.strings_law.Goals as goal

pub returns : goal.returns
returns g c = rw (← c.self.view_is) (strings-kept g.L.KeyLength _ _ _ _ c.self.invariant.0)
