use Rattle.std.proofs.Common.{ℕ, [], Option, Some, unwrap_or, refl, sym, ap, subst, ◌∙◌}
use Rattle.std.proofs.lemmas.Bool.{false≢true}
use Rattle.judy_records.specs.Spots.{Spot, IsHeld, value_of, text_of}
use Rattle.judy_records.specs.Texts.{bytes_in}
use Rattle.judy_hs.specs.Chains.{Pairs, value_in}
use Rattle.judy_hs.specs.LongRecords.{IsSpelled}
use Rattle.judy_hs.proofs.LongLemmas.{seen-held}
use Rattle.judy_hs.proofs.LongChanges.{own-value, other-value}
use Rattle.judy_hs.proofs.long_group.LongGroup.value_at.Goals as goal

pub at-record-requires : goal.at-record-requires
at-record-requires c = seen-held c.self.inside.key_length c.self.inside.chains c.self.inside.records c.args.place c.self.view_is c.requires

pub is_key-requires-clause-held : goal.is_key-requires-clause-held
is_key-requires-clause-held c =
    subst (λ (spot : Spot). IsHeld spot) (sym c.at-record.ensures) (seen-held c.self.inside.key_length c.self.inside.chains c.self.inside.records c.args.place c.self.view_is c.requires)

pub is_key-requires-clause-spelled : goal.is_key-requires-clause-spelled
is_key-requires-clause-spelled c = subst (λ (spot : Spot). IsSpelled c.self.inside.key_length spot) (sym c.at-record.ensures) (c.self.invariant.spelled c.args.place)

pub returns-then-is_key : goal.returns-then-is_key
returns-then-is_key c =
    let is = seen-held c.self.inside.key_length c.self.inside.chains c.self.inside.records c.args.place c.self.view_is c.requires in
    let own = ap (λ (spot : Spot). bytes_in c.self.inside.key_length (text_of spot)) (sym c.at-record.ensures) ∙ c.if-is_key.ensures.0 refl in
    rw (← c.self.view_is) (
    ap (λ (v : ℕ). Some v) (c.value.ensures ∙ ap (λ (spot : Spot). value_of spot) c.at-record.ensures)
    ∙ sym (own-value c.self.inside.hashes c.self.inside.key_length c.self.inside.chains c.self.inside.records c.self.invariant c.args.place is c.args.key.now own)
    )

pub returns-in-Some : goal.returns-in-Some
returns-in-Some c =
    let is = seen-held c.self.inside.key_length c.self.inside.chains c.self.inside.records c.args.place c.self.view_is c.requires in
    let spells = ap (λ (spot : Spot). bytes_in c.self.inside.key_length (text_of spot)) c.at-record.ensures in
    let others = ap (λ (found : Option Pairs). unwrap_or found []) c.in-Some.ensures.value in
    rw (← c.self.view_is) (
    c.get-in-Some.ensures ∙ ap (λ (pairs : Pairs). value_in pairs c.args.key.now) others
    ∙ sym (other-value c.self.inside.hashes c.self.inside.key_length c.self.inside.chains c.self.inside.records c.self.invariant c.args.place is c.args.key.now
    (λ same. false≢true (c.if-is_key.ensures.1 (spells ∙ same))))
    )

pub returns-in-None : goal.returns-in-None
returns-in-None c =
    let is = seen-held c.self.inside.key_length c.self.inside.chains c.self.inside.records c.args.place c.self.view_is c.requires in
    let spells = ap (λ (spot : Spot). bytes_in c.self.inside.key_length (text_of spot)) c.at-record.ensures in
    let others = ap (λ (found : Option Pairs). unwrap_or found []) c.in-None.ensures.value in
    rw (← c.self.view_is) (
    ap (λ (pairs : Pairs). value_in pairs c.args.key.now) others
    ∙ sym (other-value c.self.inside.hashes c.self.inside.key_length c.self.inside.chains c.self.inside.records c.self.invariant c.args.place is c.args.key.now
    (λ same. false≢true (c.if-is_key.ensures.1 (spells ∙ same))))
    )
