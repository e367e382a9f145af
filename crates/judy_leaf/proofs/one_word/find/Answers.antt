use Rattle.std.proofs.Common.{sym, ap, subst, ◌∙◌}
use Rattle.std.specs.List.Sorted.{IsStrictlySortedBy}
use Rattle.judy_model.specs.Keys.{word_order}
use Rattle.judy_bits.specs.ByteSets as set
use Rattle.judy_leaf.proofs.OneKey.{one_key, one_found, one_missed}
use Rattle.judy_leaf.proofs.one_word.find.Goals as goal

pub returns-then-word-key : goal.returns-then-word-key
returns-then-word-key c =
    let same = one_key c.args.width c.args.count c.args.word c.if-count-eq1.true c.requires.packed in
    one_found c.args.word c.args.key (subst (IsStrictlySortedBy word_order) same c.requires.ascending) c.if-word-key.true ∙ ap (λ keys. set.place keys c.args.key) (sym same)

pub returns-else-word-key : goal.returns-else-word-key
returns-else-word-key c =
    let same = one_key c.args.width c.args.count c.args.word c.if-count-eq1.true c.requires.packed in
    one_missed c.args.word c.args.key (subst (IsStrictlySortedBy word_order) same c.requires.ascending) c.if-word-key.false ∙ ap (λ keys. set.place keys c.args.key) (sym same)
