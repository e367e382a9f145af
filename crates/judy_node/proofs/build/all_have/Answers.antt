use Rattle.std.proofs.Common.{◌-◌, ◌^◌, length, sym, ◌∙◌, arith}
use Rattle.std.proofs.lemmas.Bool.{eqb-true, eqb-false}
use Rattle.judy_node.proofs.MadeFacts.{sharing_ends, sharing_apart}
use Rattle.judy_node.proofs.build.all_have.Goals as goal

pub returns-clause-all : goal.returns-clause-all
returns-clause-all g c same =
    let some = c.requires.some in
    let is = sharing_ends g.V.Words.WORDS c.args.below c.args.byte c.args.pairs.now (length c.args.pairs.now - 1) (0, 0) c.requires.map (omega arith) (sym c.requires.first)
    (sym c.byte_above.ensures ∙ eqb-true c.byte_above.result c.args.byte same) in
    omega arith

pub returns-clause-apart : goal.returns-clause-apart
returns-clause-apart g c other =
    let some = c.requires.some in
    sharing_apart (256 ^ c.args.below) c.args.byte c.args.pairs.now (length c.args.pairs.now - 1) (0, 0) (omega arith)
    (λ same. eqb-false c.byte_above.result c.args.byte other (c.byte_above.ensures ∙ same))
