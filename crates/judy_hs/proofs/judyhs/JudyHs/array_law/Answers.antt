use Rattle.judy_hs.proofs.ValueLemmas.{is_array_of}
use Rattle.judy_hs.proofs.judyhs.JudyHs.array_law.Goals as goal

pub returns : goal.returns
returns g c = rw (← c.self.view_is) (is_array_of g.H.ByteHash.hash_of g.H.ByteHash.LONGEST c.self.inside.limit c.self.inside.count c.self.inside.groups c.self.invariant c.words_law.ensures)
