use Rattle.std.proofs.Common.{◌∙◌, arith}
use Rattle.judy_query.proofs.EndFacts.{start_fits, bits_below, bits_value}
use Rattle.judy_query.proofs.ends.value_in.Goals as goal

pub overflow_mul-start : goal.overflow_mul-start
overflow_mul-start g c = omega (arith, start_fits g.V.Words.WORDS c.args.view.now c.in-BitLeaf.skipped c.in-BitLeaf.list c.in-BitLeaf.is c.requires.shown)

pub returns-then-key-start : goal.returns-then-key-start
returns-then-key-start g c = bits_below g.V.Words.WORDS c.args.view.now c.in-BitLeaf.skipped c.in-BitLeaf.list c.in-BitLeaf.is c.requires.shown c.args.key c.if-key-start.true

pub returns-else-key-start : goal.returns-else-key-start
returns-else-key-start g c =
    c.value_in_bits.ensures ∙ bits_value g.V.Words.WORDS c.args.view.now c.in-BitLeaf.skipped c.in-BitLeaf.list c.in-BitLeaf.is c.requires.shown c.args.key c.if-key-start.false
