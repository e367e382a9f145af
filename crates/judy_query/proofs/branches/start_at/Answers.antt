use Rattle.std.proofs.Common.{◌+◌, ◌*◌, ◌^◌, ◌<◌, sym, ◌∙◌, subst, arith}
use Rattle.judy_query.proofs.Downs.{start_fits}
use Rattle.judy_query.proofs.branches.start_at.Goals as goal

pub overflow_mul-number : goal.overflow_mul-number
overflow_mul-number g c =
    let b = c.args.branch.now in
    omega (
      arith,
      (start_fits g.V.Words.WORDS b.width b.skip b.bytes b.children.items b.population c.requires.branch 0 c.args.byte c.requires.byte.0 c.requires.byte.1 c.requires.byte.2).1,
      c.number.ensures,
    )

pub overflow_add-number : goal.overflow_add-number
overflow_add-number g c =
    let b = c.args.branch.now in
    omega (
      arith,
      (start_fits g.V.Words.WORDS b.width b.skip b.bytes b.children.items b.population c.requires.branch 0 c.args.byte c.requires.byte.0 c.requires.byte.1 c.requires.byte.2).1,
      c.number.ensures,
      c.from.ensures,
    )

pub moved_up-requires-clause-within : goal.moved_up-requires-clause-within
moved_up-requires-clause-within g c =
    let b = c.args.branch.now in
    let fits = start_fits g.V.Words.WORDS b.width b.skip b.bytes b.children.items b.population c.requires.branch 0 c.args.byte c.requires.byte.0 c.requires.byte.1 c.requires.byte.2 in
    subst (λ n. n < 2 ^ 64) (λ t. (sym c.number.ensures t * 256 + sym c.from.ensures t) * 256 ^ sym c.from-2.ensures t) fits.0

pub returns : goal.returns
returns g c = c.moved_up.ensures ∙ (λ t. (c.number.ensures t * 256 + c.from.ensures t) * 256 ^ c.from-2.ensures t)
