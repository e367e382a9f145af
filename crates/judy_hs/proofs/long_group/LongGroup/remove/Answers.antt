use Rattle.std.proofs.Common.{List, ℕ, IsSome, length, refl, sym, ap, subst, ◌∙◌}
use Rattle.std.specs.FinMap.{get, remove}
use Rattle.std.proofs.lemmas.Bool.{false≢true}
use Rattle.judy_model.specs.Keys.{word_order}
use Rattle.judy_model.specs.Arrays.{ArrayOf}
use Rattle.judy_records.specs.Texts.{words_for, words_of}
use Rattle.judy_records.specs.Spots.{RecordList, held, with_spot}
use Rattle.judy_hs.specs.Chains.{Pairs, value_in}
use Rattle.judy_hs.specs.LongGroups.{Long, chain_at}
use Rattle.judy_hs.specs.LongRecords.{pairs_from, AreLongRecords}
use Rattle.judy_hs.proofs.LongLemmas.{pairs-at, long_of}
use Rattle.judy_hs.proofs.LongPuts.{inner-kept}
use Rattle.judy_hs.proofs.LongMoves.{taken_out, left-kept, left-others, first-good, moved-kept, moved-in, freed, freed-kept}
use Rattle.judy_hs.proofs.long_group.LongGroup.remove.Goals as goal

pub is_own-requires-clause-there : goal.is_own-requires-clause-there
is_own-requires-clause-there c =
    subst (λ (pairs : Pairs). IsSome (value_in pairs c.args.key.now)) (pairs-at c.self.inside.key_length c.self.inside.chains c.self.inside.records c.args.place)
    (subst (λ (long : Long). IsSome (value_in (chain_at long c.args.place) c.args.key.now)) (sym c.self.view_is) c.requires.is_there)

pub invariant_of-self : goal.invariant_of-self
invariant_of-self c =
    let leads = ap (λ (long : Long). get long.hashes.map c.args.hash) c.self.view_is ∙ c.requires.leads in
    left-kept c.self.inside.hashes c.self.inside.key_length c.self.inside.chains c.self.inside.records c.self.invariant c.args.hash c.args.place leads c.args.key.now
    c.leave.new.chains c.leave.ensures.same (λ same. false≢true (c.if-not-is_own.ensures.1 same)) c.leave.ensures.left

pub returns-then-not-is_own : goal.returns-then-not-is_own
returns-then-not-is_own c =
    let leads = ap (λ (long : Long). get long.hashes.map c.args.hash) c.self.view_is ∙ c.requires.leads in
    rw (← c.self.view_is) (left-others c.self.inside.hashes c.self.inside.key_length c.self.inside.chains c.self.inside.records c.self.invariant c.args.hash
    c.args.place leads c.args.key.now c.leave.new.chains c.leave.ensures.same (λ same. false≢true (c.if-not-is_own.ensures.1 same)) c.leave.ensures.left)

pub set-requires-clause-fits : goal.set-requires-clause-fits
set-requires-clause-fits c =
    let leads = ap (λ (long : Long). get long.hashes.map c.args.hash) c.self.view_is ∙ c.requires.leads in
    let good = first-good c.self.inside.hashes c.self.inside.key_length c.self.inside.chains c.self.inside.records c.self.invariant c.args.hash c.args.place leads
    c.args.key.now c.take_first.new.chains c.take_first.ensures.same (c.if-not-is_own.ensures.0 refl) c.in-Some.other.items c.in-Some.value c.in-Some.ensures.first in
    ap words_for (ap (λ (bytes : List ℕ). length bytes) c.deref.ensures.value ∙ good.1) ∙ sym c.self.invariant.size

pub invariant_of-self-in-Some : goal.invariant_of-self-in-Some
invariant_of-self-in-Some c =
    let leads = ap (λ (long : Long). get long.hashes.map c.args.hash) c.self.view_is ∙ c.requires.leads in
    let put = c.set.ensures ∙ ap (λ (bytes : List ℕ). with_spot c.self.inside.records c.args.place (held c.in-Some.value (words_of bytes))) c.deref.ensures.value in
    subst (λ (now : RecordList). AreLongRecords c.self.inside.hashes.map c.self.inside.key_length c.take_first.new.chains now) (sym put)
    (moved-kept c.self.inside.hashes c.self.inside.key_length c.self.inside.chains c.self.inside.records c.self.invariant c.args.hash c.args.place leads c.args.key.now
    c.take_first.new.chains c.take_first.ensures.same (c.if-not-is_own.ensures.0 refl) c.in-Some.other.items c.in-Some.value c.in-Some.ensures.first)

pub returns-in-Some : goal.returns-in-Some
returns-in-Some c =
    let leads = ap (λ (long : Long). get long.hashes.map c.args.hash) c.self.view_is ∙ c.requires.leads in
    let put = c.set.ensures ∙ ap (λ (bytes : List ℕ). with_spot c.self.inside.records c.args.place (held c.in-Some.value (words_of bytes))) c.deref.ensures.value in
    rw (← c.self.view_is) (
    ap (long_of c.self.inside.hashes c.self.inside.key_length c.take_first.new.chains) put
    ∙ moved-in c.self.inside.hashes c.self.inside.key_length c.self.inside.chains c.self.inside.records c.self.invariant c.args.hash c.args.place leads c.args.key.now
    c.take_first.new.chains c.take_first.ensures.same (c.if-not-is_own.ensures.0 refl) c.in-Some.other.items c.in-Some.value c.in-Some.ensures.first
    )

pub invariant_of-self-in-None : goal.invariant_of-self-in-None
invariant_of-self-in-None c =
    let leads = ap (λ (long : Long). get long.hashes.map c.args.hash) c.self.view_is ∙ c.requires.leads in
    subst (λ (array : ArrayOf word_order). AreLongRecords array.map c.self.inside.key_length c.take_first.new.chains c.take_out.new.self) (sym c.del.ensures.deleted)
    (inner-kept (remove c.self.inside.hashes.map c.args.hash) c.self.inside.key_length c.take_first.new.chains (taken_out c.self.inside.records c.args.place) c.take_out.new.self
    c.take_out.ensures.size c.take_out.ensures.spots
    (freed-kept c.self.inside.hashes c.self.inside.key_length c.self.inside.chains c.self.inside.records c.self.invariant c.args.hash c.args.place leads c.args.key.now
    c.take_first.new.chains c.take_first.ensures.same (c.if-not-is_own.ensures.0 refl) c.in-None.ensures.first.0 c.in-None.ensures.first.1))

pub returns-in-None : goal.returns-in-None
returns-in-None c =
    let leads = ap (λ (long : Long). get long.hashes.map c.args.hash) c.self.view_is ∙ c.requires.leads in
    rw (← c.self.view_is) (
    (λ t. record { key_length = c.self.inside.key_length; hashes = c.del.ensures.deleted t; chains = pairs_from c.self.inside.key_length c.take_first.new.chains 0 (c.take_out.ensures.spots t) })
    ∙ freed c.self.inside.hashes c.self.inside.key_length c.self.inside.chains c.self.inside.records c.self.invariant c.args.hash c.args.place leads c.args.key.now
    c.take_first.new.chains c.take_first.ensures.same (c.if-not-is_own.ensures.0 refl) c.in-None.ensures.first.0 c.in-None.ensures.first.1
    )
