use Rattle.std.proofs.Common.{◌-◌, arith}
use Rattle.judy_node.proofs.Counts.{population-last, there}
use Rattle.judy_node.proofs.populations.holding_from_last.Goals as goal

pub returns-then-left-count : goal.returns-then-left-count
returns-then-left-count g c =
    let kids = c.args.children.now in
    let some = c.loop-place-test.true in
    let here = c.loop-place.invariant.2 in
    let step = population-last kids c.loop-place.place c.index-children-place.result (omega arith) here c.index-children-place.is in
    let before = c.loop-place.invariant.0 in
    let more = c.loop-place.invariant.1 in
    let count = c.pop-count.ensures in
    let within = c.if-left-count.true in
    let all = c.requires.within in (
      c.index-children-place.result,
      record {
        there = there kids (c.loop-place.place - 1) c.index-children-place.result (omega arith) c.index-children-place.is;
        counted = omega arith;
        inside = omega arith;
      },
    )

pub loop-place-preserved : goal.loop-place-preserved
loop-place-preserved g c =
    let kids = c.args.children.now in
    let some = c.loop-place-test.true in
    let here = c.loop-place.invariant.2 in
    let step = population-last kids c.loop-place.place c.index-children-place.result (omega arith) here c.index-children-place.is in
    let before = c.loop-place.invariant.0 in
    let count = c.pop-count.ensures in
    let within = c.if-left-count.false in
    (omega arith, omega arith, omega arith)
