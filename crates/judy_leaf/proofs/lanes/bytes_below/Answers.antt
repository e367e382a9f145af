use Rattle.std.proofs.Common.{◌≡◌, ◌+◌, count_by, count_ones, nat_lt, refl, ap, ◌∙◌, arith}
use Rattle.std.proofs.lemmas.Simd.{bitmask_splat, ones-mask_l}
use lib.Lanes.{digits_l}
use mir.Syntax.{w8}
use Rattle.judy_leaf.specs.Packing.{digits}
use Rattle.judy_leaf.proofs.lanes.bytes_below.Goals as goal

pub returns : goal.returns
returns c =
    let lanes = digits_l 256 8 (c.args.word + 0) in
    ap count_ones (bitmask_splat w8 nat_lt lanes 8 c.args.key refl (omega arith))
    ∙ ones-mask_l (λ x. nat_lt x c.args.key) lanes
    ∙ ap (λ n. count_by (λ x. nat_lt x c.args.key) (digits 256 8 n)) (let e : c.args.word + 0 ≡ c.args.word = omega arith in e)
