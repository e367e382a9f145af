use Rattle.std.proofs.Common.{Result, Ok, Err, OnErr, sym, ap, ◌∙◌, arith}
use Rattle.std.specs.FinMap.{get}
use Rattle.judy_hs.specs.LongGroups.{Long}
use Rattle.judy_hs.specs.LongRecords.{IsKeyOf}
use Rattle.judy_hs.proofs.LongLemmas.{bytes_are}
use Rattle.judy_hs.proofs.LongMoves.{joined-kept, added-held}
use Rattle.judy_hs.proofs.LongChanges.{beside-same}
use Rattle.judy_hs.proofs.SharedLemmas.{same-each}
use Rattle.judy_hs.proofs.long_group.LongGroup.add.Goals as goal

-- What holds anyhow holds after an error.
on-err : {A E P : Type 0} (result : Result A E) → P → OnErr result P
on-err (Ok done) holds = tt
on-err (Err error) holds = holds

pub invariant_of-self-in-Some : goal.invariant_of-self-in-Some
invariant_of-self-in-Some c =
    let good : IsKeyOf c.self.inside.key_length c.args.key.now = (
      bytes_are c.args.key.now (λ i. omega (arith, c.type_inv.key i)),
      c.requires.of_length ∙ ap (λ (long : Long). long.key_length) (sym c.self.view_is),
    ) in
    let leads = ap (λ (long : Long). get long.hashes.map c.args.hash) c.self.view_is ∙ sym c.requires.chain ∙ c.in-Some.is in
    joined-kept c.self.inside.hashes c.self.inside.key_length c.self.inside.chains c.self.inside.records c.self.invariant c.args.hash c.in-Some.held leads
    c.args.key.now c.join.new.chains c.join.ensures.same good c.in_ok-join-in-Some.ensures.put

pub returns-in_ok-join-in-Some-clause-added : goal.returns-in_ok-join-in-Some-clause-added
returns-in_ok-join-in-Some-clause-added c =
    let good : IsKeyOf c.self.inside.key_length c.args.key.now = (
      bytes_are c.args.key.now (λ i. omega (arith, c.type_inv.key i)),
      c.requires.of_length ∙ ap (λ (long : Long). long.key_length) (sym c.self.view_is),
    ) in
    let leads = ap (λ (long : Long). get long.hashes.map c.args.hash) c.self.view_is ∙ sym c.requires.chain ∙ c.in-Some.is in
    rw (← c.self.view_is) (added-held c.self.inside.hashes c.self.inside.key_length c.self.inside.chains c.self.inside.records c.self.invariant c.args.hash
    c.in-Some.held leads c.args.key.now c.join.new.chains c.join.ensures.same good c.in_ok-join-in-Some.ensures.put)

pub invariant_of-self : goal.invariant_of-self
invariant_of-self c =
    let leads = ap (λ (long : Long). get long.hashes.map c.args.hash) c.self.view_is ∙ sym c.requires.chain ∙ c.in-Some.is in
    (beside-same c.self.inside.hashes c.self.inside.key_length c.self.inside.chains c.self.inside.records c.self.invariant c.in-Some.held
    (c.self.invariant.led c.args.hash c.in-Some.held leads) c.join.new.chains (same-each c.self.inside.chains c.join.new.chains c.in-Some.held
    c.in_err-join-in-Some.ensures.refused c.join.ensures.same)).1

pub returns-in_err-join-in-Some-clause-unchanged : goal.returns-in_err-join-in-Some-clause-unchanged
returns-in_err-join-in-Some-clause-unchanged c =
    let leads = ap (λ (long : Long). get long.hashes.map c.args.hash) c.self.view_is ∙ sym c.requires.chain ∙ c.in-Some.is in
    rw (← c.self.view_is) (on-err c.from_residual.result (beside-same c.self.inside.hashes c.self.inside.key_length c.self.inside.chains c.self.inside.records c.self.invariant c.in-Some.held
    (c.self.invariant.led c.args.hash c.in-Some.held leads) c.join.new.chains (same-each c.self.inside.chains c.join.new.chains c.in-Some.held
    c.in_err-join-in-Some.ensures.refused c.join.ensures.same)).0)
