use Rattle.std.proofs.Common.{◌≡◌, ◌+◌, ◌^◌, ◌<◌, count_by, count_ones, nat_lt, refl, ap, ◌∙◌, arith}
use Rattle.std.proofs.lemmas.Simd.{bitmask_splat, ones-mask_l}
use lib.Lanes.{digits_l, number_l}
use mir.Syntax.{w16}
use Rattle.judy_leaf.specs.Packing.{digits}
use Rattle.judy_leaf.proofs.Digits.{number-digits}
use Rattle.judy_leaf.proofs.lanes.pairs_below.Goals as goal

pub returns : goal.returns
returns c =
    let word = c.args.word + 0 in
    let lanes = digits_l 65536 4 (number_l 256 (digits_l 256 8 word)) in
    let same : word ≡ c.args.word = omega arith in
    let fits : word < 256 ^ 8 = omega (arith, c.ranges.word.fits) in
    ap count_ones (bitmask_splat w16 nat_lt lanes 4 c.args.key refl (omega arith))
    ∙ ones-mask_l (λ x. nat_lt x c.args.key) lanes
    ∙ ap (λ n. count_by (λ x. nat_lt x c.args.key) (digits 65536 4 n)) (number-digits 256 (omega arith) 8 word fits ∙ same)
