use Rattle.std.proofs.Common.{◌*◌, sym, ap, ◌∙◌, arith}
use Rattle.judy_leaf.specs.Nearby.{pair_from}
use Rattle.judy_query.specs.Parts.{raised}
use Rattle.judy_query.proofs.EndFacts.{start_fits, bits_from, from_fits}
use Rattle.judy_query.proofs.ends.from_other.Goals as goal

pub overflow_mul-start : goal.overflow_mul-start
overflow_mul-start g c =
    let fits = start_fits g.V.Words.WORDS c.args.view.now c.in-BitLeaf.skipped c.in-BitLeaf.list c.in-BitLeaf.is c.requires.shown in
    omega arith

pub returns-in_err-byte-in-BitLeaf : goal.returns-in_err-byte-in-BitLeaf
returns-in_err-byte-in-BitLeaf g c =
    c.from_residual.ensures
    ∙ sym (bits_from g.V.Words.WORDS c.args.view.now c.in-BitLeaf.skipped c.in-BitLeaf.list c.in-BitLeaf.is c.requires.shown c.args.key
    ∙ ap (raised (c.in-BitLeaf.skipped * 256)) (ap (pair_from c.in-BitLeaf.list.pairs) (sym c.saturating_sub.ensures) ∙ sym c.at_or_after-in-BitLeaf.ensures ∙ c.in_err-byte-in-BitLeaf.was))

pub overflow_add-result : goal.overflow_add-result
overflow_add-result g c =
    let fits = from_fits g.V.Words.WORDS c.args.view.now c.in-BitLeaf.skipped c.in-BitLeaf.list c.in-BitLeaf.is c.requires.shown c.saturating_sub.result
    c.in_ok-byte-in-BitLeaf.byte c.in_ok-byte-in-BitLeaf.value
    (sym c.at_or_after-in-BitLeaf.ensures ∙ c.in_ok-byte-in-BitLeaf.was) in
    omega arith

pub returns-in_ok-byte-in-BitLeaf : goal.returns-in_ok-byte-in-BitLeaf
returns-in_ok-byte-in-BitLeaf g c =
    sym (bits_from g.V.Words.WORDS c.args.view.now c.in-BitLeaf.skipped c.in-BitLeaf.list c.in-BitLeaf.is c.requires.shown c.args.key
    ∙ ap (raised (c.in-BitLeaf.skipped * 256)) (ap (pair_from c.in-BitLeaf.list.pairs) (sym c.saturating_sub.ensures) ∙ sym c.at_or_after-in-BitLeaf.ensures ∙ c.in_ok-byte-in-BitLeaf.was))
