use Rattle.std.proofs.Common.{ap, sym, ◌∙◌, arith, drop, ◌+◌, nat_cmp}
use Rattle.judy_model.specs.Keys.{byte_order}
use Rattle.judy_records.specs.Texts.{words_of}
use Rattle.judy_records.proofs.TextLemmas.{order-short, order-end, order-apart, order-same}
use Rattle.judy_records.proofs.text.order.Goals as goal

pub returns-then-is_empty : goal.returns-then-is_empty
returns-then-is_empty c =
    sym (order-short c.args.text.now c.loop-word.rest.now c.loop-word.word-index c.loop-word-test.true (grind (arith, c.if-is_empty.ensures))) ∙ c.loop-word.invariant

pub returns-then-word-other : goal.returns-then-word-other
returns-then-word-other c =
    c.cmp.ensures ∙ ap (nat_cmp _) c.first_word-other.ensures
    ∙ sym (order-apart c.args.text.now c.loop-word.rest.now c.loop-word.word-index c.loop-word-test.true (grind (arith, c.if-is_empty.ensures))
    (λ e. c.if-word-other.true (e ∙ sym c.first_word-other.ensures)))
    ∙ c.loop-word.invariant

pub loop-word-preserved : goal.loop-word-preserved
loop-word-preserved c =
    ap (λ rest. byte_order (drop (c.loop-word.word-index + 1) c.args.text.now) (words_of rest)) c.after_first-rest.ensures
    ∙ order-same c.args.text.now c.loop-word.rest.now c.loop-word.word-index c.loop-word-test.true (grind (arith, c.if-is_empty.ensures)) (c.if-word-other.false ∙ c.first_word-other.ensures)
    ∙ c.loop-word.invariant

pub returns-else-is_empty-2 : goal.returns-else-is_empty-2
returns-else-is_empty-2 c =
    sym (order-end c.args.text.now c.loop-word.rest.now c.loop-word.word-index (omega (arith, c.loop-word-test.false)) (grind (arith, c.if-is_empty-2.ensures))) ∙ c.loop-word.invariant
