use Rattle.std.proofs.Common.{◌≢◌, [], sym, subst, ◌∙◌}
use Rattle.judy_hs.specs.LongGroups.{Long, chain_at}
use Rattle.judy_hs.proofs.LongLemmas.{is-used}
use Rattle.judy_hs.proofs.long_group.LongGroup.take.Goals as goal

pub value_at-requires : goal.value_at-requires
value_at-requires c =
    let leads = sym c.get.ensures ∙ c.in_ok-place.was in
    subst (λ (long : Long). chain_at long c.in_ok-place.place ≢ []) c.self.view_is (is-used c.self.inside.key_length c.self.inside.chains c.self.inside.records c.in_ok-place.place
    (c.self.invariant.led c.args.hash c.in_ok-place.place leads))
