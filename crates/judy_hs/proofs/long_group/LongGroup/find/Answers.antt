use Rattle.std.proofs.Common.{◌≢◌, [], sym, ap, subst, ◌∙◌}
use Rattle.std.specs.FinMap.{get}
use Rattle.judy_hs.specs.LongGroups.{Long, chain_at}
use Rattle.judy_hs.proofs.LongLemmas.{is-used}
use Rattle.judy_hs.proofs.long_group.LongGroup.find.Goals as goal

pub value_at-requires : goal.value_at-requires
value_at-requires c =
    let leads = ap (λ (long : Long). get long.hashes.map c.requires.0) c.self.view_is ∙ sym c.requires.1 ∙ c.in_ok-place.was in
    subst (λ (long : Long). chain_at long c.in_ok-place.place ≢ []) c.self.view_is (is-used c.self.inside.key_length c.self.inside.chains c.self.inside.records c.in_ok-place.place
    (c.self.invariant.led c.requires.0 c.in_ok-place.place leads))
