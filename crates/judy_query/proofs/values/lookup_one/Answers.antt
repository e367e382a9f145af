use Rattle.std.proofs.Common.{◌^◌, ◌∙◌, ap, sym}
use Rattle.judy_query.specs.Parts.{value_of}
use Rattle.judy_query.proofs.Links.{get_is}
use Rattle.judy_query.proofs.values.lookup_one.Goals as goal

pub returns-in-One-clause-start : goal.returns-in-One-clause-start
returns-in-One-clause-start g c =
    c.value_of_one.ensures
    ∙ sym (ap (λ pairs. value_of pairs c.args.key) c.in-One.ensures.view.pairs)
    ∙ sym (get_is g.V.Words.WORDS (256 ^ 8) c.args.tree.now.pairs c.law.ensures.map c.args.key)

pub returns-in_default : goal.returns-in_default
returns-in_default g c = record { start = tt; visits = c.enter.ensures.visits }
