use Rattle.std.proofs.Common.{arith}
use Rattle.judy_sets.proofs.RangePuts.{front_step}
use Rattle.judy_sets.proofs.range_puts.count_up_to.Goals as goal

pub pairs-preserved : goal.pairs-preserved
pairs-preserved c = record {
  within = omega arith;
  inside = front_step c.args.to c.args.pairs.now c.pairs.count c.pairs-test.true c.if-pairs-count.true c.pairs.invariant.inside;
}
