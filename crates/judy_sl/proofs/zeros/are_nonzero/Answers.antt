use Rattle.std.proofs.Common.{◌-◌, ◌*◌, ◌/◌, ◌&&◌, length, ap, ◌∙◌, arith}
use Rattle.judy_sl.proofs.lemmas.pieces.ZeroLemmas.{are, overlapping}
use Rattle.judy_sl.proofs.zeros.are_nonzero.Goals as goal

pub returns-in-Some : goal.returns-in-Some
returns-in-Some c =
    let bytes = c.args.bytes.now in
    let chunk = c.in-Some.ensures.cases in
    (λ i. c.are_sixteens.ensures i && (c.are_sixteen.ensures ∙ ap are chunk.1.same) i)
    ∙ overlapping (16 * (length bytes / 16)) (length bytes - 16) bytes (omega (arith, chunk.0))
