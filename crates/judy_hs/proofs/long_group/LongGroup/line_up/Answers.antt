use Rattle.std.proofs.Common.{subst}
use Rattle.judy_hs.specs.LongGroups.{Long}
use Rattle.judy_hs.specs.Relaid.{IsRelaid}
use Rattle.judy_hs.proofs.LongLemmas.{long_of}
use Rattle.judy_hs.proofs.RelaidMoves.{holds-kept, holds-relaid}
use Rattle.judy_hs.proofs.long_group.LongGroup.line_up.Goals as goal

pub invariant_of-self : goal.invariant_of-self
invariant_of-self c =
    let group = c.self.inside in
    holds-kept group.hashes group.key_length group.chains group.records c.line_up.new.self c.line_up.ensures c.self.invariant

pub returns : goal.returns
returns c =
    let group = c.self.inside in
    subst (λ (before : Long). IsRelaid before (long_of group.hashes group.key_length group.chains c.line_up.new.self)) c.self.view_is
    (holds-relaid group.hashes group.key_length group.chains group.records c.line_up.new.self c.line_up.ensures)
