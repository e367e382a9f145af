use Rattle.std.proofs.Common.{◌<◌, ◌+◌, ◌*◌, sym, ap, ◌∙◌, arith}
use Rattle.std.proofs.lemmas.List.{take_more, take_all}
use Rattle.judy_model.specs.WordBytes.{number_of}
use Rattle.judy_hs.proofs.PartLemmas.{number_of-push, room, below_next}
use Rattle.judy_hs.proofs.part.word_of.Goals as goal

pub overflow_mul-word : goal.overflow_mul-word
overflow_mul-word c = omega (arith, room c.loop-byte.word c.loop-byte.byte-index 0 c.loop-byte.invariant.1 (omega arith) (omega arith))

pub overflow_add-word : goal.overflow_add-word
overflow_add-word c =
    let small : c.from.result < 256 = omega (arith, c.type_inv.bytes c.loop-byte.byte-index) in
    omega (arith, room c.loop-byte.word c.loop-byte.byte-index c.from.result c.loop-byte.invariant.1 (omega arith) small)

pub loop-byte-preserved : goal.loop-byte-preserved
loop-byte-preserved c =
    let small : c.from.result < 256 = omega (arith, c.type_inv.bytes c.loop-byte.byte-index) in (
      (λ t. c.loop-byte.invariant.0 t * 256 + c.from.ensures t) ∙ sym (number_of-push _ _) ∙ ap number_of (sym (take_more c.args.bytes.now c.loop-byte.byte-index 0 c.loop-byte-test.true)),
      below_next c.loop-byte.word c.loop-byte.byte-index c.from.result c.loop-byte.invariant.1 small,
    )

pub returns : goal.returns
returns c = c.loop-byte.invariant.0 ∙ ap number_of (take_all c.loop-byte.byte-index c.args.bytes.now (omega arith))
