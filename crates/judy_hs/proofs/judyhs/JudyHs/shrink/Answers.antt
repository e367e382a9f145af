use Rattle.std.proofs.Common.{◌∙◌}
use Rattle.judy_hs.proofs.RelaidLemmas.{relaid-array, relaid-IsHs}
use Rattle.judy_hs.proofs.judyhs.JudyHs.shrink.Goals as goal

pub invariant_of-self : goal.invariant_of-self
invariant_of-self g c =
    relaid-IsHs c.self.inside.groups c.shrink.new.self c.shrink.ensures g.H.ByteHash.hash_of g.H.ByteHash.LONGEST c.self.inside.limit c.self.inside.count c.self.invariant

pub returns : goal.returns
returns g c =
    relaid-array c.self.inside.groups c.shrink.new.self c.shrink.ensures g.H.ByteHash.hash_of g.H.ByteHash.LONGEST c.self.inside.limit ∙ c.self.view_is
