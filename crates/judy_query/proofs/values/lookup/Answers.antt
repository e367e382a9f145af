use Rattle.std.proofs.Common.{◌^◌, ◌∙◌, sym}
use Rattle.judy_query.proofs.Links.{get_is}
use Rattle.judy_query.proofs.values.lookup.Goals as goal

pub returns-in_err-end-clause-value : goal.returns-in_err-end-clause-value
returns-in_err-end-clause-value g c =
    c.from_residual.ensures ∙ c.in_err-end.ensures.value ∙ sym (get_is g.V.Words.WORDS (256 ^ 8) c.args.tree.now.pairs c.law.ensures.map c.args.key)

pub returns-clause-value : goal.returns-clause-value
returns-clause-value g c = c.value_in.ensures ∙ c.in_ok-end.ensures.value ∙ sym (get_is g.V.Words.WORDS (256 ^ 8) c.args.tree.now.pairs c.law.ensures.map c.args.key)
