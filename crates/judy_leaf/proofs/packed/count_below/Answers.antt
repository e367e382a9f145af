use Rattle.std.proofs.Common.{arith}
use Rattle.judy_leaf.proofs.Counted.{counted_word}
use Rattle.judy_leaf.proofs.packed.count_below.Goals as goal

pub loop-word-preserved : goal.loop-word-preserved
loop-word-preserved g c =
    let within = c.below_in-below.ensures.within in
    let so_far = c.loop-word.invariant.1 in (
      counted_word g.row.W c.requires.width c.args.words.now c.loop-word.word-index c.args.key c.loop-word.below c.below_in-below.result
          (omega arith) c.loop-word.invariant.0 c.below_in-below.ensures.count,
      omega arith,
    )
