use Rattle.std.proofs.Common.{arith}
use Rattle.judy_query.proofs.EndFacts.{start_fits, bits_looked}
use Rattle.judy_query.proofs.ends.value_in_dense.Goals as goal

pub overflow_mul-start : goal.overflow_mul-start
overflow_mul-start g c =
    let fits = start_fits g.V.Words.WORDS c.args.view.now c.in-BitLeaf.skipped c.in-BitLeaf.list c.in-BitLeaf.is c.requires.shown in
    omega arith

pub returns : goal.returns
returns g c =
    let above = c.if-key-start.false in
    bits_looked g.V.Words.WORDS c.args.view.now c.in-BitLeaf.skipped c.in-BitLeaf.list c.in-BitLeaf.is c.requires.shown c.args.key c.value_in_bits.result (omega arith) c.value_in_bits.ensures
