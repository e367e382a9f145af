use Rattle.std.proofs.Common.{◌==◌, ◌∙◌, bit_or}
use Rattle.std.specs.Int.{bit_at}
use Rattle.judy_combine.proofs.BitFacts.{kept_bit}
use Rattle.judy_combine.proofs.bits.word_kept.Goals as goal

pub returns : goal.returns
returns c place inside =
    (λ t. bit_at (bit_or (bit_or (c.word_if-left.ensures t) (c.word_if-both.ensures t)) (c.word_if-right.ensures t)) place == 1)
    ∙ kept_bit c.args.keep c.args.one c.args.other place c.ranges.one.fits c.ranges.other.fits inside
