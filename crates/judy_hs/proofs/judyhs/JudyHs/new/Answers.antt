use Rattle.judy_hs.proofs.HsLemmas.{IsHs-none, array_of-none}
use Rattle.judy_hs.proofs.judyhs.JudyHs.new.Goals as goal

pub invariant_of-result : goal.invariant_of-result
invariant_of-result g c = rw c.new.ensures (IsHs-none g.H.ByteHash.hash_of g.H.ByteHash.LONGEST c.args.limit c.requires.some c.requires.most)

pub returns : goal.returns
returns g c = rw c.new.ensures (array_of-none g.H.ByteHash.hash_of g.H.ByteHash.LONGEST c.args.limit)
