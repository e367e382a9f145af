use Rattle.std.proofs.Common.{◌-◌, sym, subst, arith}
use Rattle.judy_node.specs.Trees.{Tree}
use Rattle.judy_node.specs.Populations.{HoldsNth}
use Rattle.judy_query.proofs.Downs.{holds_first, holds_last, kid_some}
use Rattle.judy_query.proofs.WalkFacts.{first_inside}
use Rattle.judy_query.proofs.branches.holding.Goals as goal

pub returns-then-n-eq0 : goal.returns-then-n-eq0
returns-then-n-eq0 g c =
    let b = c.args.branch.now in
    holds_first g.V.Words.WORDS b.width b.skip b.bytes b.children.items b.population c.requires.branch 0 c.args.n c.if-n-eq0.true

pub overflow_sub-last : goal.overflow_sub-last
overflow_sub-last g c =
    let b = c.args.branch.now in
    omega (arith, first_inside g.V.Words.WORDS b.width b.skip b.bytes b.children.items b.population c.requires.branch, b.children.ok.0, c.len-last.ensures)

pub index-requires : goal.index-requires
index-requires g c =
    let b = c.args.branch.now in
    omega (arith, first_inside g.V.Words.WORDS b.width b.skip b.bytes b.children.items b.population c.requires.branch, b.children.ok.0, c.len-last.ensures)

pub overflow_sub-result : goal.overflow_sub-result
overflow_sub-result g c =
    let b = c.args.branch.now in
    let some = first_inside g.V.Words.WORDS b.width b.skip b.bytes b.children.items b.population c.requires.branch in
    omega (
      arith,
      kid_some g.V.Words.WORDS b.width b.skip b.bytes b.children.items b.population c.requires.branch 0 (c.len-last.result - 1) c.index.result.now
          (omega (arith, b.children.ok.0, c.len-last.ensures)) c.index.ensures,
      c.pop.ensures,
    )

pub returns-then-n-branch : goal.returns-then-n-branch
returns-then-n-branch g c =
    let b = c.args.branch.now in
    let some = first_inside g.V.Words.WORDS b.width b.skip b.bytes b.children.items b.population c.requires.branch in
    subst (λ n. (kid : Tree) × HoldsNth b.children.items c.args.n (c.len-last.result - 1) (n - 1) kid) (sym c.pop.ensures)
    (holds_last g.V.Words.WORDS b.width b.skip b.bytes b.children.items b.population c.requires.branch 0 c.args.n (c.len-last.result - 1) c.index.result.now
    (omega (arith, b.children.ok.0, c.len-last.ensures)) c.index.ensures (omega (arith, c.if-n-branch.true, c.requires.within)))
