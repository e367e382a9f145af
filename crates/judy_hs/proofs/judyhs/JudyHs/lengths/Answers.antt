use Rattle.judy_hs.proofs.InnerLemmas.{lengths-are}
use Rattle.judy_hs.proofs.judyhs.JudyHs.lengths.Goals as goal

pub returns : goal.returns
returns g c = rw (← c.self.view_is, c.array.ensures.map, c.lengths.ensures) (lengths-are g.H.ByteHash.hash_of g.H.ByteHash.LONGEST c.self.inside.groups c.self.invariant.is_keyed)
