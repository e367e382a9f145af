use Rattle.std.proofs.Common.{sym, subst}
use Rattle.judy_model.specs.Keys.{word_order}
use Rattle.judy_model.specs.Arrays.{ArrayOf}
use Rattle.judy_hs.specs.LongGroups.{Long}
use Rattle.judy_hs.specs.LongRecords.{AreLongRecords}
use Rattle.judy_hs.specs.Relaid.{IsRelaid}
use Rattle.judy_hs.proofs.LongLemmas.{long_of}
use Rattle.judy_hs.proofs.RelaidMoves.{holds-kept, holds-relaid}
use Rattle.judy_hs.proofs.long_group.LongGroup.trim.Goals as goal

pub invariant_of-self : goal.invariant_of-self
invariant_of-self c =
    let group = c.self.inside in
    subst (λ (hashes : ArrayOf word_order). AreLongRecords hashes.map group.key_length group.chains c.trim.new.self) (sym c.shrink.ensures)
    (holds-kept group.hashes group.key_length group.chains group.records c.trim.new.self c.trim.ensures c.self.invariant)

pub returns : goal.returns
returns c =
    let group = c.self.inside in
    subst (λ (before : Long). IsRelaid before (long_of c.shrink.new.self group.key_length group.chains c.trim.new.self)) c.self.view_is
    (subst (λ (hashes : ArrayOf word_order).
    IsRelaid (long_of group.hashes group.key_length group.chains group.records) (long_of hashes group.key_length group.chains c.trim.new.self)) (sym c.shrink.ensures)
    (holds-relaid group.hashes group.key_length group.chains group.records c.trim.new.self c.trim.ensures))
