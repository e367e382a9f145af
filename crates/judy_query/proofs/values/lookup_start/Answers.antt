use Rattle.std.proofs.Common.{◌^◌, ◌∙◌, ap, sym, arith}
use Rattle.judy_query.specs.Parts.{value_of}
use Rattle.judy_query.proofs.Downs.{is_shown}
use Rattle.judy_query.proofs.Links.{get_is}
use Rattle.judy_query.proofs.values.lookup_start.Goals as goal

pub returns-in-Leaf-clause-start : goal.returns-in-Leaf-clause-start
returns-in-Leaf-clause-start g c =
    c.value_in_words.ensures
    ∙ sym (ap (λ pairs. value_of pairs c.args.key) c.in-Leaf.ensures.view.pairs)
    ∙ sym (get_is g.V.Words.WORDS (256 ^ 8) c.args.tree.now.pairs c.law.ensures.map c.args.key)

pub returns-in-Branch-clause-start : goal.returns-in-Branch-clause-start
returns-in-Branch-clause-start g c =
    let view = c.in-Branch.ensures.view in
    (view.pairs, is_shown g.V.Words.WORDS 8 c.args.tree.now _ (omega arith) (omega arith) view.place.0 view, view.place.0)

pub returns-in_default : goal.returns-in_default
returns-in_default g c = record { start = tt; visits = c.enter.ensures.visits }
