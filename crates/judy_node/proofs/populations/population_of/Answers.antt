use Rattle.std.proofs.Common.{arith}
use Rattle.judy_node.proofs.Counts.{population-step, population-within}
use Rattle.judy_node.proofs.populations.population_of.Goals as goal

pub overflow_add-sum : goal.overflow_add-sum
overflow_add-sum g c =
    let within = population-within c.args.children.now c.loop-child.child-index c.child-item.result c.loop-child-test.true c.child-item.is in
    let sum = c.loop-child.invariant in
    omega arith

pub loop-child-preserved : goal.loop-child-preserved
loop-child-preserved g c =
    let step = population-step c.args.children.now c.loop-child.child-index c.child-item.result c.loop-child-test.true c.child-item.is in
    let sum = c.loop-child.invariant in
    omega arith
