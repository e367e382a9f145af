use Rattle.std.proofs.Common.{sym, ap, subst, ◌∙◌}
use Rattle.judy_bits.specs.ByteSets as set
use Rattle.judy_leaf.specs.Nearby.{IsNextAt}
use Rattle.judy_leaf.proofs.OneKey.{one_key, one_below, one_next}
use Rattle.judy_leaf.proofs.one_word.next.Goals as goal

pub returns-then-word-number : goal.returns-then-word-number
returns-then-word-number c =
    let same = one_key c.args.width c.args.count c.args.word c.if-count-eq1.true c.requires.packed in
    ap (λ keys. set.rank keys c.args.number) same ∙ one_below c.args.word c.args.number c.if-word-number.true ∙ sym c.if-count-eq1.true

pub returns-else-word-number : goal.returns-else-word-number
returns-else-word-number c =
    let same = one_key c.args.width c.args.count c.args.word c.if-count-eq1.true c.requires.packed in
    subst (λ keys. IsNextAt keys c.args.number (0, c.args.word)) (sym same) (one_next c.args.word c.args.number c.if-word-number.false)
