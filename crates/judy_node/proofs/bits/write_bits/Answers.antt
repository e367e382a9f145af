use Rattle.std.proofs.Common.{◌<◌, length, get_or, refl, sym, ap, ◌∙◌, arith}
use Rattle.std.proofs.lemmas.List.{take_all}
use Rattle.judy_model.specs.Ranges.{zeroed}
use Rattle.judy_bits.specs.ByteSets.{next_from}
use Rattle.judy_node.proofs.BitFacts.{member_there, member_behind, member_written}
use Rattle.judy_node.proofs.StepFacts.{rank_zero}
use Rattle.judy_node.proofs.bits.write_bits.Goals as goal

pub loop-place-init : goal.loop-place-init
loop-place-init c = record { written = refl; behind = λ more. rank_zero c.args.bits.now }

pub unreachable-requires : goal.unreachable-requires
unreachable-requires c =
    let inside = c.loop-place-test.true in
    let room = c.requires in
    let more : c.loop-place.place < length c.args.bits.now = omega arith in
    c.in_default.not-Some (get_or c.args.bits.now c.loop-place.place 0) (c.next_from.ensures ∙ ap (λ members. next_from members c.loop-place.from) c.by_ref-members.ensures
    ∙ member_there c.args.bits.now c.loop-place.place c.loop-place.from c.law.ensures (c.loop-place.invariant.behind more) more)

pub loop-place-preserved : goal.loop-place-preserved
loop-place-preserved c =
    let inside = c.loop-place-test.true in
    let room = c.requires in
    let long = c.loop-place.auto.out in
    let more : c.loop-place.place < length c.args.bits.now = omega arith in
    let behind = c.loop-place.invariant.behind more in
    let found = ap (λ members. next_from members c.loop-place.from) (sym c.by_ref-members.ensures) ∙ sym c.next_from.ensures ∙ c.in-Some.is in
    record {
      written = member_written c.args.bits.now c.law.ensures c.loop-place.place c.loop-place.from c.in-Some.byte behind found c.loop-place.out (c.from.result, 0) (omega arith) more
          (λ t. (c.from.ensures t, 0)) c.loop-place.invariant.written;
      behind = member_behind c.args.bits.now c.law.ensures c.loop-place.place c.loop-place.from c.in-Some.byte behind found c.saturating_add-from.result
          (λ less. omega (arith, c.saturating_add-from.ensures));
    }

pub returns : goal.returns
returns c =
    let past = c.loop-place-test.false in
    let room = c.requires in
    let long = c.loop-place.auto.out in
    sym (take_all c.loop-place.place c.loop-place.out (omega arith)) ∙ c.loop-place.invariant.written ∙ ap zeroed (take_all c.loop-place.place c.args.bits.now (omega arith))
