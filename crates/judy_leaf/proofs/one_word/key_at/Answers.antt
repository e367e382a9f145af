use Rattle.std.proofs.Common.{◌≡◌, slice_index, sym, arith}
use Rattle.judy_leaf.proofs.OneKey.{one_key}
use Rattle.judy_leaf.proofs.one_word.key_at.Goals as goal

pub returns-then-count-eq1 : goal.returns-then-count-eq1
returns-then-count-eq1 c =
    let one = c.if-count-eq1.true in
    let inside = c.requires.inside in
    let first : c.args.at ≡ 0 = omega arith in
    sym (λ t. slice_index (one_key c.args.width c.args.count c.args.word one c.requires.packed t) (first t))
