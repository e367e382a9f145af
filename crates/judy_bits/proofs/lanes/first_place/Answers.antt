use Rattle.std.proofs.Common.{◌<◌, get_or, nat_eq, subst, ap, ◌∙◌, arith}
use Rattle.std.proofs.lemmas.Simd.{bitmask_splat}
use lib.Count.{count_trailing_zeros}
use mir.Syntax.{w8}
use Rattle.judy_bits.proofs.LaneLemmas.{lowest_holds, none_before}
use Rattle.judy_bits.proofs.lanes.first_place.Goals as goal

pub returns-clause-holds : goal.returns-clause-holds
returns-clause-holds g c = λ inside.
    let same = bitmask_splat w8 nat_eq c.args.bytes g.row.N c.args.byte c.requires.many (omega (arith, c.requires.few)) in
    ap (λ mask. get_or c.args.bytes (count_trailing_zeros 64 mask) 0) same
    ∙ lowest_holds c.args.bytes c.args.byte g.row.N c.requires.many (omega (arith, c.requires.few)) (subst (λ mask. count_trailing_zeros 64 mask < g.row.N) same inside)

pub returns-clause-first : goal.returns-clause-first
returns-clause-first g c = λ k inside before.
    let same = bitmask_splat w8 nat_eq c.args.bytes g.row.N c.args.byte c.requires.many (omega (arith, c.requires.few)) in
    none_before c.args.bytes c.args.byte g.row.N c.requires.many (omega (arith, c.requires.few)) k inside (subst (λ mask. k < count_trailing_zeros 64 mask) same before)
