use Rattle.std.proofs.Common.{◌-◌, ◌^◌, arith, sym, ap, ◌∙◌, bit_and}
use Rattle.judy_bits.proofs.BitLemmas.{none_from, lowest_from_trailing}
use Rattle.judy_bits.proofs.bits.lowest_from.Goals as goal

pub returns-then-rest-eq0 : goal.returns-then-rest-eq0
returns-then-rest-eq0 c = none_from c.args.word c.args.from c.requires c.ranges.word.fits (ap (λ mask. bit_and c.args.word (2 ^ 64 - 1 - mask)) (sym c.low_ones.ensures) ∙ c.if-rest-eq0.true)

pub returns-else-rest-eq0 : goal.returns-else-rest-eq0
returns-else-rest-eq0 c =
    let some = rw c.low_ones.ensures at c.if-rest-eq0.false in rw c.low_ones.ensures (lowest_from_trailing c.args.word c.args.from c.requires c.ranges.word.fits (omega (arith, some)))
