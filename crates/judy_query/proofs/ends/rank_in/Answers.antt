use Rattle.std.proofs.Common.{◌∙◌, arith}
use Rattle.judy_query.proofs.EndFacts.{start_fits, rank_below, bits_rank}
use Rattle.judy_query.proofs.ends.rank_in.Goals as goal

pub overflow_mul-start : goal.overflow_mul-start
overflow_mul-start g c = omega (arith, start_fits g.V.Words.WORDS c.args.view.now c.in-BitLeaf.skipped c.in-BitLeaf.list c.in-BitLeaf.is c.requires.shown)

pub returns-then-key-start : goal.returns-then-key-start
returns-then-key-start g c = rank_below g.V.Words.WORDS c.args.view.now c.in-BitLeaf.skipped c.in-BitLeaf.list c.in-BitLeaf.is c.requires.shown c.args.key c.if-key-start.true

pub returns-else-key-start : goal.returns-else-key-start
returns-else-key-start g c =
    c.rank-else-key-start.ensures.value ∙ bits_rank g.V.Words.WORDS c.args.view.now c.in-BitLeaf.skipped c.in-BitLeaf.list c.in-BitLeaf.is c.requires.shown c.args.key c.if-key-start.false
