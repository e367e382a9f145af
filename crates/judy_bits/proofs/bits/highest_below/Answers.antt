use Rattle.std.proofs.Common.{arith, sym, ap, ◌∙◌, bit_and}
use Rattle.judy_bits.proofs.BitLemmas.{none_below, highest_below_leading}
use Rattle.judy_bits.proofs.bits.highest_below.Goals as goal

pub returns-then-rest-eq0 : goal.returns-then-rest-eq0
returns-then-rest-eq0 c = none_below c.args.word c.args.limit c.requires c.ranges.word.fits (ap (bit_and c.args.word) (sym c.low_ones.ensures) ∙ c.if-rest-eq0.true)

pub returns-else-rest-eq0 : goal.returns-else-rest-eq0
returns-else-rest-eq0 c =
    let some = rw c.low_ones.ensures at c.if-rest-eq0.false in rw c.low_ones.ensures (highest_below_leading c.args.word c.args.limit c.requires c.ranges.word.fits (omega (arith, some)))
