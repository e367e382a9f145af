use Rattle.std.proofs.Common.{[], Option, unwrap_or, ap, subst}
use Rattle.judy_hs.specs.Chains.{Pairs, value_in}
use Rattle.judy_hs.specs.Values.{AreWords}
use Rattle.judy_hs.proofs.LongLemmas.{seen-held, at-held}
use Rattle.judy_hs.proofs.ValueLemmas.{first_words, none_words}
use Rattle.judy_hs.proofs.long_group.LongGroup.words_law_at.Goals as goal

pub value-requires : goal.value-requires
value-requires c = seen-held c.self.inside.key_length c.self.inside.chains c.self.inside.records c.args.place c.self.view_is c.requires

pub returns-in-Some : goal.returns-in-Some
returns-in-Some c =
    let is = seen-held c.self.inside.key_length c.self.inside.chains c.self.inside.records c.args.place c.self.view_is c.requires in
    let others = ap (λ (found : Option Pairs). unwrap_or found []) c.in-Some.ensures.value in
    let all = at-held c.self.inside.key_length c.self.inside.chains c.self.inside.records c.args.place is in
    rw (← c.self.view_is) (first_words _ _ c.value.result _ _ all c.value.ensures c.word_law.ensures (subst (λ (pairs : Pairs). AreWords (value_in pairs)) others c.words_law.ensures))

pub returns-in_default : goal.returns-in_default
returns-in_default c =
    let is = seen-held c.self.inside.key_length c.self.inside.chains c.self.inside.records c.args.place c.self.view_is c.requires in
    let others = ap (λ (found : Option Pairs). unwrap_or found []) c.in_default.ensures.value in
    let all = at-held c.self.inside.key_length c.self.inside.chains c.self.inside.records c.args.place is in
    rw (← c.self.view_is) (first_words _ _ c.value.result _ _ all c.value.ensures c.word_law.ensures (subst (λ (pairs : Pairs). AreWords (value_in pairs)) others none_words))
