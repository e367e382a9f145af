use Rattle.std.proofs.Common.{◌≡◌, ◌+◌, map, nat_eq, refl, ap, ◌∙◌, arith}
use Rattle.std.proofs.lemmas.Simd.{bitmask_splat}
use lib.Lanes.{digits_l, mask_l}
use mir.Syntax.{w8}
use Rattle.judy_leaf.specs.Packing.{digits}
use Rattle.judy_leaf.proofs.lanes.bytes_equal.Goals as goal

pub returns : goal.returns
returns c =
    bitmask_splat w8 nat_eq (digits_l 256 8 (c.args.word + 0)) 8 c.args.key refl (omega arith)
    ∙ ap (λ n. mask_l (map (λ x. nat_eq x c.args.key) (digits 256 8 n))) (let e : c.args.word + 0 ≡ c.args.word = omega arith in e)
