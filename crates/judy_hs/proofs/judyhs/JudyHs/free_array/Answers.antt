use Rattle.judy_hs.proofs.HsLemmas.{IsHs-none, array_of-none}
use Rattle.judy_hs.proofs.judyhs.JudyHs.free_array.Goals as goal

pub invariant_of-self : goal.invariant_of-self
invariant_of-self g c = rw c.new.ensures (IsHs-none g.H.ByteHash.hash_of g.H.ByteHash.LONGEST c.self.inside.limit c.self.invariant.holds_some c.self.invariant.limit_fits)

pub returns-clause-emptied : goal.returns-clause-emptied
returns-clause-emptied g c = rw (← c.self.view_is, c.new.ensures) (array_of-none g.H.ByteHash.hash_of g.H.ByteHash.LONGEST c.self.inside.limit)
