use Rattle.std.proofs.Common.{subst, arith, IfOk}
use Rattle.judy_node.specs.Trees.{Pairs}
use Rattle.judy_node.specs.Kinds.{tree_of}
use Rattle.judy_node.specs.Built.{IsBuilt}
use Rattle.judy_change.proofs.Added.{unit_fits, filled_nine, more-low}
use Rattle.judy_change.proofs.immediates.past_few.Goals as goal

pub fill-requires-clause-fits : goal.fill-requires-clause-fits
fill-requires-clause-fits g c =
    let most = c.len-count.ensures.list.most in
    let fits = unit_fits c.args.full.now.width most in
    omega arith

pub kind_of_sorted-requires-clause-map : goal.kind_of_sorted-requires-clause-map
kind_of_sorted-requires-clause-map g c =
    more-low g.V.Words.WORDS c.args.width c.args.pair.key c.args.pair.value c.args.full.now.pairs c.requires.map c.requires.absent c.requires.fits c.requires.no_value _
    (filled_nine c.fill.new.out c.args.full.now.pairs c.put_at.new.pairs c.args.pair.key c.args.pair.value c.rank.result c.len-count.result c.fill.ensures c.len-count.ensures.count
    (omega (arith, c.len-count.ensures.within)) c.rank.ensures.value c.put_at.ensures)

pub returns-clause-built : goal.returns-clause-built
returns-clause-built g c =
    subst (λ (ps : Pairs). IfOk c.kind_of_sorted.result (λ kind. IsBuilt g.V.Words.WORDS c.args.width ps (tree_of g.V.Words.WORDS kind)))
    (filled_nine c.fill.new.out c.args.full.now.pairs c.put_at.new.pairs c.args.pair.key c.args.pair.value c.rank.result c.len-count.result c.fill.ensures c.len-count.ensures.count
    (omega (arith, c.len-count.ensures.within)) c.rank.ensures.value c.put_at.ensures) c.kind_of_sorted.ensures.built
