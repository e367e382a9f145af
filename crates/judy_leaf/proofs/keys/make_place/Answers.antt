use Rattle.std.proofs.Common.{◌+◌, ◌<◌, ap, sym, subst, arith}
use Rattle.judy_block.specs.Contents.{with_gap}
use Rattle.judy_leaf.specs.Leaves.{words_for}
use Rattle.judy_leaf.specs.KeyChanges.{HasPlace}
use Rattle.judy_leaf.proofs.KeyEdits.{placed_more}
use Rattle.judy_leaf.proofs.keys.make_place.Goals as goal

pub returns-then-words_for : goal.returns-then-words_for
returns-then-words_for g c =
    let before = c.args.block.now in
    let less = c.if-words_for.true in
    let first = c.words_for.ensures.value in
    let second = c.words_for-2.ensures.value in
    let more : words_for g.row.W c.args.count < words_for g.row.W (c.args.count + 1) = omega arith in
    subst (HasPlace g.row.W c.args.count c.args.start before) (sym c.open_gap.ensures)
    (placed_more g.row.W c.requires.width c.args.start c.args.count before (with_gap (c.args.start + c.words_for-then-words_for.result) 1 before.words) c.requires.keys more
    (ap (λ n. with_gap (c.args.start + n) 1 before.words) c.words_for-then-words_for.ensures.value))
