use Rattle.std.proofs.Common.{nat_lt, sym, ap, ◌∙◌}
use Rattle.judy_bits.specs.ByteSets as set
use Rattle.judy_leaf.proofs.Counted.{byte_of_test}
use Rattle.judy_leaf.proofs.OneKey.{one_key, one_rank}
use Rattle.judy_leaf.proofs.one_word.rank.Goals as goal

pub returns-then-count-eq1 : goal.returns-then-count-eq1
returns-then-count-eq1 c =
    let same = one_key c.args.width c.args.count c.args.word c.if-count-eq1.true c.requires.packed in
    byte_of_test (nat_lt c.args.word c.args.key) ∙ sym (one_rank c.args.word c.args.key) ∙ ap (λ keys. set.rank keys c.args.key) (sym same)
