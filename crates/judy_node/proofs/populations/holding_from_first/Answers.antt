use Rattle.std.proofs.Common.{arith}
use Rattle.judy_node.proofs.Counts.{population-step}
use Rattle.judy_node.proofs.populations.holding_from_first.Goals as goal

pub loop-place-preserved : goal.loop-place-preserved
loop-place-preserved g c =
    let step = population-step c.args.children.now c.loop-place.place c.index-children-place.result c.loop-place-test.true c.index-children-place.is in
    let before = c.loop-place.invariant in
    let count = c.pop-count.ensures in
    let within = c.if-left-count.false in
    omega arith
