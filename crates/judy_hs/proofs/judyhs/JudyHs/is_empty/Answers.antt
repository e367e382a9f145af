use Rattle.judy_hs.proofs.HsLemmas.{empty_iff}
use Rattle.judy_hs.proofs.judyhs.JudyHs.is_empty.Goals as goal

pub returns : goal.returns
returns g c = rw (← c.self.view_is) (empty_iff _ c.self.inside.count c.self.invariant.counted)
