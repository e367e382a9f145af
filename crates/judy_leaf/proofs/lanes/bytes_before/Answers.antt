use Rattle.std.proofs.Common.{◌-◌, ◌<◌, length, arith}
use Rattle.judy_leaf.proofs.FirstByte.{found_here}
use Rattle.judy_leaf.proofs.lanes.bytes_before.Goals as goal

pub loop-word-preserved : goal.loop-word-preserved
loop-word-preserved c =
    let at = c.loop-word.word - 1 in
    let some = c.loop-word-test.true in
    let inside : at < length c.args.words.now = let within = c.loop-word.invariant.2 in omega arith in
    let found = found_here c.args.key c.args.words.now at inside c.bytes_equal-equal.result c.bytes_equal-equal.ensures c.if-equal-eq0.false in
    let within = c.loop-word.invariant.2 in
    let small = found.1 in
    (found.0, omega arith, omega arith)
