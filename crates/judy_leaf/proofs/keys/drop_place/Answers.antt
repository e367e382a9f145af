use Rattle.std.proofs.Common.{◌≡◌, ◌+◌, ◌-◌, ap, sym, subst, arith}
use Rattle.judy_block.specs.Contents.{without_gap}
use Rattle.judy_leaf.specs.Leaves.{words_for}
use Rattle.judy_leaf.specs.KeyChanges.{IsKeyChange}
use Rattle.judy_leaf.proofs.KeyEdits.{word_dropped, words_kept}
use Rattle.judy_leaf.proofs.keys.drop_place.Goals as goal

pub returns-then-words_for : goal.returns-then-words_for
returns-then-words_for g c =
    let before = c.args.block.now in
    let fewer = c.args.count - 1 in
    let some = c.requires.some.0 in
    let most = c.requires.some.1 in
    let e : c.args.count ≡ fewer + 1 = omega arith in
    let whole : words_for g.row.W c.args.count ≡ words_for g.row.W (fewer + 1) = ap (words_for g.row.W) e in
    let less = c.if-words_for.true in
    let first = c.words_for.ensures.value in
    let second = c.words_for-2.ensures.value in
    let exact = c.requires.keys.exact in
    subst (IsKeyChange g.row.W c.args.start fewer fewer (λ keys. keys) before) (sym c.close_gap.ensures)
    (word_dropped g.row.W c.requires.width c.args.start fewer before (without_gap (c.args.start + c.words_for-then-words_for.result) 1 before.words)
    (omega arith) c.requires.keys.packed (omega arith) (omega arith)
    (ap (λ n. without_gap (c.args.start + n) 1 before.words) c.words_for-then-words_for.ensures.value))

pub returns-else-words_for : goal.returns-else-words_for
returns-else-words_for g c =
    let fewer = c.args.count - 1 in
    let some = c.requires.some.0 in
    let most = c.requires.some.1 in
    let e : c.args.count ≡ fewer + 1 = omega arith in
    let whole : words_for g.row.W c.args.count ≡ words_for g.row.W (fewer + 1) = ap (words_for g.row.W) e in
    let less = c.if-words_for.false in
    let first = c.words_for.ensures.value in
    let second = c.words_for-2.ensures.value in
    let exact = c.requires.keys.exact in
    words_kept g.row.W c.requires.width c.args.start fewer c.args.block.now (omega arith) c.requires.keys.packed (omega arith) (omega arith)
