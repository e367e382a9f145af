use Rattle.std.proofs.Common.{◌≡◌, ◌/◌, ◌%◌, ◌^◌, refl, ap, ◌∙◌, arith, bit_and}
use Rattle.std.proofs.lemmas.Nat.{and_mask}
use Rattle.judy_bits.proofs.Halvings.{halved_starts, halved_low, halved_high, even_halves}
use Rattle.judy_bits.proofs.bits.select.Goals as goal

pub loop-width-init : goal.loop-width-init
loop-width-init c = (halved_starts c.args.word c.args.index (omega (arith, c.ranges.word.fits)) c.requires, 6, refl)

pub loop-width-preserved-then-left-count : goal.loop-width-preserved-then-left-count
loop-width-preserved-then-left-count c =
    let low : bit_and (c.args.word / 2 ^ c.loop-width.place) c.low_ones.result ≡ c.args.word / 2 ^ c.loop-width.place % 2 ^ (c.loop-width.width / 2) =
    ap (bit_and (c.args.word / 2 ^ c.loop-width.place)) c.low_ones.ensures ∙ and_mask (c.args.word / 2 ^ c.loop-width.place) (c.loop-width.width / 2) in
    let past = rw low at c.if-left-count.true in
    let halves = even_halves c.loop-width.width c.loop-width.invariant.1 c.loop-width.invariant.2 c.loop-width-test.true in
    rw low (halved_high _ _ _ _ _ _ (c.loop-width.width / 2) c.loop-width.invariant.0 (omega arith) (omega arith) halves.0 past, halves.1, halves.2)

pub loop-width-preserved : goal.loop-width-preserved
loop-width-preserved c =
    let low : bit_and (c.args.word / 2 ^ c.loop-width.place) c.low_ones.result ≡ c.args.word / 2 ^ c.loop-width.place % 2 ^ (c.loop-width.width / 2) =
    ap (bit_and (c.args.word / 2 ^ c.loop-width.place)) c.low_ones.ensures ∙ and_mask (c.args.word / 2 ^ c.loop-width.place) (c.loop-width.width / 2) in
    let holds = rw low at c.if-left-count.false in
    let halves = even_halves c.loop-width.width c.loop-width.invariant.1 c.loop-width.invariant.2 c.loop-width-test.true in
    (halved_low _ _ _ _ _ _ (c.loop-width.width / 2) c.loop-width.invariant.0 (omega arith) (omega arith) holds, halves.1, halves.2)
