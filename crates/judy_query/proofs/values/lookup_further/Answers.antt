use Rattle.std.proofs.Common.{◌^◌, ◌∙◌, sym, subst}
use Rattle.judy_node.specs.Trees.{branch_pairs, IsMap}
use Rattle.judy_query.proofs.Links.{get_is}
use Rattle.judy_query.proofs.values.lookup_further.Goals as goal

pub returns-in_err-end-clause-value : goal.returns-in_err-end-clause-value
returns-in_err-end-clause-value g c =
    let top = c.args.branch.now in
    let pairs = branch_pairs top.width top.skip top.bytes top.children.items in
    c.from_residual.ensures
    ∙ sym c.in_err-end.ensures.value
    ∙ sym (get_is g.V.Words.WORDS (256 ^ 8) pairs (subst (λ w. IsMap g.V.Words.WORDS 0 (256 ^ w) pairs) c.requires.wide c.requires.shown.map) c.args.key)

pub returns-clause-value : goal.returns-clause-value
returns-clause-value g c =
    let top = c.args.branch.now in
    let pairs = branch_pairs top.width top.skip top.bytes top.children.items in
    c.value_in.ensures
    ∙ sym c.in_ok-end.ensures.value
    ∙ sym (get_is g.V.Words.WORDS (256 ^ 8) pairs (subst (λ w. IsMap g.V.Words.WORDS 0 (256 ^ w) pairs) c.requires.wide c.requires.shown.map) c.args.key)
