use Rattle.std.proofs.Common.{nat_eq, ap, ◌∙◌, arith}
use Rattle.std.proofs.lemmas.Simd.{bitmask_splat}
use mir.Syntax.{w8}
use Rattle.judy_sl.proofs.lemmas.pieces.ZeroLemmas.{no_bit}
use Rattle.judy_sl.proofs.zeros.are_sixteen.Goals as goal

pub returns : goal.returns
returns c = ap (λ n. nat_eq n 0) (bitmask_splat w8 nat_eq c.args.bytes.now 16 0 c.told-bytes (omega arith)) ∙ no_bit c.args.bytes.now
