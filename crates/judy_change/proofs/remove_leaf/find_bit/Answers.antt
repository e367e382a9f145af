use Rattle.std.proofs.Common.{sym, ap, ◌∙◌}
use Rattle.judy_bits.specs.ByteSets as set
use Rattle.judy_leaf.specs.KeyLists.{keys_of}
use Rattle.judy_change.proofs.LeafFacts.{find_told}
use Rattle.judy_change.proofs.remove_leaf.find_bit.Goals as goal

pub returns-then-without_low-skipped : goal.returns-then-without_low-skipped
returns-then-without_low-skipped g c = λ same. absurd (c.if-without_low-skipped.true (c.without_low.ensures ∙ same))

pub returns : goal.returns
returns g c =
    find_told c.find.result (keys_of c.args.bits.pairs) c.args.key c.args.skipped
    (c.find.ensures ∙ ap (set.place (keys_of c.args.bits.pairs)) c.low_part.ensures) (sym c.without_low.ensures ∙ c.if-without_low-skipped.false)
