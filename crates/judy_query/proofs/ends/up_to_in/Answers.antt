use Rattle.std.proofs.Common.{◌-◌, ◌*◌, sym, ap, ◌∙◌, arith}
use Rattle.judy_query.specs.Parts.{raised}
use Rattle.judy_query.proofs.EndFacts.{start_fits, bits_up_to, up_to_fits, bits_all_above}
use Rattle.judy_query.proofs.ends.up_to_in.Goals as goal

pub overflow_mul-start : goal.overflow_mul-start
overflow_mul-start g c = omega (arith, start_fits g.V.Words.WORDS c.args.view.now c.in-BitLeaf.skipped c.in-BitLeaf.list c.in-BitLeaf.is c.requires.shown)

pub returns-then-key-start : goal.returns-then-key-start
returns-then-key-start g c = bits_all_above g.V.Words.WORDS c.args.view.now c.in-BitLeaf.skipped c.in-BitLeaf.list c.in-BitLeaf.is c.requires.shown c.args.key c.if-key-start.true

pub returns-in_err-byte-in-BitLeaf : goal.returns-in_err-byte-in-BitLeaf
returns-in_err-byte-in-BitLeaf g c =
    c.from_residual.ensures
    ∙ sym (bits_up_to g.V.Words.WORDS c.args.view.now c.in-BitLeaf.skipped c.in-BitLeaf.list c.in-BitLeaf.is c.requires.shown c.args.key c.if-key-start.false
    ∙ ap (raised (c.in-BitLeaf.skipped * 256)) (sym c.at_or_before-in-BitLeaf.ensures ∙ c.in_err-byte-in-BitLeaf.was))

pub overflow_add-result : goal.overflow_add-result
overflow_add-result g c =
    let fits = up_to_fits g.V.Words.WORDS c.args.view.now c.in-BitLeaf.skipped c.in-BitLeaf.list c.in-BitLeaf.is c.requires.shown
    (c.args.key - c.in-BitLeaf.skipped * 256) c.in_ok-byte-in-BitLeaf.byte c.in_ok-byte-in-BitLeaf.value
    (sym c.at_or_before-in-BitLeaf.ensures ∙ c.in_ok-byte-in-BitLeaf.was) in
    omega arith

pub returns-in_ok-byte-in-BitLeaf : goal.returns-in_ok-byte-in-BitLeaf
returns-in_ok-byte-in-BitLeaf g c =
    sym (bits_up_to g.V.Words.WORDS c.args.view.now c.in-BitLeaf.skipped c.in-BitLeaf.list c.in-BitLeaf.is c.requires.shown c.args.key c.if-key-start.false
    ∙ ap (raised (c.in-BitLeaf.skipped * 256)) (sym c.at_or_before-in-BitLeaf.ensures ∙ c.in_ok-byte-in-BitLeaf.was))
