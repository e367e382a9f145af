use Rattle.std.proofs.Common.{◌≡◌, sym, ap, ◌∙◌, arith}
use Rattle.std.specs.FinMap.{remove}
use Rattle.judy_model.specs.Keys.{word_order}
use Rattle.judy_model.specs.Arrays.{ArrayOf, with_map}
use Rattle.judy_hs.specs.LongGroups.{Long}
use Rattle.judy_hs.specs.LongRecords.{IsKeyOf}
use Rattle.judy_hs.proofs.LongLemmas.{bytes_are}
use Rattle.judy_hs.proofs.LongPuts.{tried-kept, tried-added, refused-kept, refused-same}
use Rattle.judy_word.proofs.TrialLemmas.{put-absent, put-new, put-undone}
use Rattle.judy_hs.proofs.long_group.LongGroup.try_add.Goals as goal

pub invariant_of-self-in-Ok : goal.invariant_of-self-in-Ok
invariant_of-self-in-Ok c =
    let good : IsKeyOf c.self.inside.key_length c.args.key.now = (
      bytes_are c.args.key.now (λ i. omega (arith, c.type_inv.key i)),
      c.requires.of_length ∙ ap (λ (long : Long). long.key_length) (sym c.self.view_is),
    ) in
    let added = sym c.in-Ok-true.field-0-test ∙ c.in-Ok-true.ensures.answer in
    let put = c.in-Ok-true.ensures.put ∙ ap (with_map c.self.inside.hashes) (put-new c.self.inside.hashes.map c.args.hash c.next_place-place.result added) in
    tried-kept c.self.inside.hashes c.put_if_absent.new.self c.self.inside.key_length c.self.inside.chains c.self.inside.records c.put.new.self c.self.invariant
    c.put.ensures.size c.law.ensures.next c.args.hash c.args.key.now good (put-absent c.self.inside.hashes.map c.args.hash added) c.next_place-place.result c.next_place-place.ensures
    put c.in-Ok.ensures.put

pub returns-in-Ok-clause-added : goal.returns-in-Ok-clause-added
returns-in-Ok-clause-added c =
    let good : IsKeyOf c.self.inside.key_length c.args.key.now = (
      bytes_are c.args.key.now (λ i. omega (arith, c.type_inv.key i)),
      c.requires.of_length ∙ ap (λ (long : Long). long.key_length) (sym c.self.view_is),
    ) in
    let added = sym c.in-Ok-true.field-0-test ∙ c.in-Ok-true.ensures.answer in
    let put = c.in-Ok-true.ensures.put ∙ ap (with_map c.self.inside.hashes) (put-new c.self.inside.hashes.map c.args.hash c.next_place-place.result added) in
    rw (← c.self.view_is) (
    tried-added c.self.inside.hashes c.put_if_absent.new.self c.self.inside.key_length c.self.inside.chains c.self.inside.records c.put.new.self c.self.invariant
    c.put.ensures.size c.law.ensures.next c.args.hash c.args.key.now good (put-absent c.self.inside.hashes.map c.args.hash added) c.next_place-place.result c.next_place-place.ensures
    put c.in-Ok.ensures.put
    )

pub invariant_of-self-in-Err-put : goal.invariant_of-self-in-Err-put
invariant_of-self-in-Err-put c =
    let added = sym c.in-Ok-true.field-0-test ∙ c.in-Ok-true.ensures.answer in
    let undone : c.del.new.self ≡ c.self.inside.hashes =
    c.del.ensures.deleted
    ∙ ap (λ (made : ArrayOf word_order). with_map made (remove made.map c.args.hash)) c.in-Ok-true.ensures.put
    ∙ ap (with_map c.self.inside.hashes) (put-undone c.self.inside.hashes.map c.args.hash c.next_place-place.result added) in
    refused-kept c.self.inside.hashes c.del.new.self c.self.inside.key_length c.self.inside.chains c.self.inside.records c.put.new.self c.self.invariant
    c.put.ensures.size c.in-Err-put.ensures.same undone

pub returns-in-Err-put-clause-unchanged : goal.returns-in-Err-put-clause-unchanged
returns-in-Err-put-clause-unchanged c =
    let added = sym c.in-Ok-true.field-0-test ∙ c.in-Ok-true.ensures.answer in
    let undone : c.del.new.self ≡ c.self.inside.hashes =
    c.del.ensures.deleted
    ∙ ap (λ (made : ArrayOf word_order). with_map made (remove made.map c.args.hash)) c.in-Ok-true.ensures.put
    ∙ ap (with_map c.self.inside.hashes) (put-undone c.self.inside.hashes.map c.args.hash c.next_place-place.result added) in
    rw (← c.self.view_is) (refused-same c.self.inside.hashes c.del.new.self c.self.inside.key_length c.self.inside.chains c.self.inside.records c.put.new.self
    c.self.invariant c.put.ensures.size c.in-Err-put.ensures.same undone)
