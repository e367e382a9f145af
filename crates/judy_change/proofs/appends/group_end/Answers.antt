use Rattle.std.proofs.Common.{◌/◌, ◌^◌, get_or, sym, ap, ◌∙◌}
use Rattle.judy_change.specs.Appended.{first_key}
use Rattle.judy_change.proofs.AppendFacts.{begin_more}
use Rattle.judy_change.proofs.appends.group_end.Goals as goal

pub pairs-preserved : goal.pairs-preserved
pairs-preserved c =
    let pairs = c.args.pairs.now in
    let here = ap (λ w. (get_or pairs c.pairs.at (0, 0)).0 / 256 ^ w) (sym c.from-width.ensures) ∙ sym c.without_tail.ensures in
    let same = here ∙ c.if-without_tail-front.false ∙ c.without_tail-front.ensures ∙ ap (λ w. first_key pairs / 256 ^ w) c.from-width.ensures in
    begin_more (256 ^ c.args.below) (first_key pairs / 256 ^ c.args.below) pairs c.pairs.at (0, 0) c.pairs.invariant c.pairs-test.true same
