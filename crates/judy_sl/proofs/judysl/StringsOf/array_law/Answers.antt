use Rattle.judy_sl.proofs.lemmas.seats.Words.{words-array}
use Rattle.judy_sl.proofs.judysl.StringsOf.array_law.Goals as goal

pub returns : goal.returns
returns g c = rw (← c.self.view_is) (words-array g.L.KeyLength _ _ _ _ c.self.invariant.0 c.words_law.ensures)
