use Rattle.std.proofs.Common.{◌≡◌, ◌+◌, ℕ, true, false, refl, ap, List, Option, IsSome, Result, Ok, Err, OnOk, subst, sym, ◌∙◌}
use Rattle.std.specs.declared.alloc.AllocError.{AllocError}
use Rattle.std.specs.FinMap.{find, put}
use Rattle.judy_model.specs.Keys.{word_order}
use Rattle.judy_sums.specs.Pairs.{Pairs}
use Rattle.judy_sums.specs.Chunks.{StandsAt, IsSpot, joined}
use Rattle.judy_sums.proofs.SpotLemmas.{put_there, spot_absent, first_one}
use Rattle.judy_sums.proofs.steps.raise.Goals as goal

pub returns-then-stands-clause-raised : goal.returns-then-stands-clause-raised
returns-then-stands-clause-raised c =
    let here = subst (λ (all : List Pairs). StandsAt all c.args.word c.spot_of-spot.result.chunk c.spot_of-spot.result.at) c.all-3.ensures (c.if-stands.ensures.there refl) in
    c.raise.ensures.changed ∙ put_there c.args.chunks.now c.args.word c.spot_of-spot.result.chunk c.spot_of-spot.result.at c.requires.are here (λ n. n + 1)

pub bring_in-requires-clause-new : goal.bring_in-requires-clause-new
bring_in-requires-clause-new c =
    let spot = subst (λ (all : List Pairs). IsSpot all c.args.word c.spot_of-spot.result.chunk c.spot_of-spot.result.at) c.all-2.ensures c.spot_of-spot.ensures in
    ap (λ (entry : ℕ × ℕ). find word_order entry.0 (joined c.args.chunks.now)) c.new-2.ensures
    ∙ spot_absent c.args.chunks.now c.args.word c.spot_of-spot.result.chunk c.spot_of-spot.result.at c.requires.are spot
    (λ here. c.if-stands.ensures.apart refl (subst (λ (all : List Pairs). StandsAt all c.args.word c.spot_of-spot.result.chunk c.spot_of-spot.result.at) (sym c.all-3.ensures) here))

on_ok : {P Q : Type 0} (result : Result (Unit {0}) AllocError) → (P → Q) → OnOk result P → OnOk result Q
on_ok (Ok value) more holds = more holds
on_ok (Err error) more holds = holds

pub returns-clause-raised : goal.returns-clause-raised
returns-clause-raised c =
    let spot = subst (λ (all : List Pairs). IsSpot all c.args.word c.spot_of-spot.result.chunk c.spot_of-spot.result.at) c.all-2.ensures c.spot_of-spot.ensures in
    let absent = spot_absent c.args.chunks.now c.args.word c.spot_of-spot.result.chunk c.spot_of-spot.result.at c.requires.are spot
    (λ here. c.if-stands.ensures.apart refl (subst (λ (all : List Pairs). StandsAt all c.args.word c.spot_of-spot.result.chunk c.spot_of-spot.result.at) (sym c.all-3.ensures) here)) in
    on_ok c.bring_in.result (λ e. e ∙ ap (λ (entry : ℕ × ℕ). put word_order entry.0 entry.1 (joined c.args.chunks.now)) c.new-2.ensures
    ∙ first_one (joined c.args.chunks.now) c.args.word absent) c.bring_in.ensures.inserted

pub returns-clause-there : goal.returns-clause-there
returns-clause-there c = λ found.
    let spot = subst (λ (all : List Pairs). IsSpot all c.args.word c.spot_of-spot.result.chunk c.spot_of-spot.result.at) c.all-2.ensures c.spot_of-spot.ensures in
    let absent = spot_absent c.args.chunks.now c.args.word c.spot_of-spot.result.chunk c.spot_of-spot.result.at c.requires.are spot
    (λ here. c.if-stands.ensures.apart refl (subst (λ (all : List Pairs). StandsAt all c.args.word c.spot_of-spot.result.chunk c.spot_of-spot.result.at) (sym c.all-3.ensures) here)) in
    let never : false ≡ true = subst (λ (known : Option ℕ). IsSome known) absent found in
    cc
