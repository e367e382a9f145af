use Rattle.std.proofs.Common.{◌≡◌, ◌+◌, ◌*◌, ◌/◌, ◌&&◌, [], length, take, get_or, ap, ◌∙◌, arith}
use Rattle.judy_sl.proofs.lemmas.pieces.ZeroLemmas.{are, more, chunk_is}
use Rattle.judy_sl.proofs.zeros.are_sixteens.Goals as goal

pub loop-i-preserved : goal.loop-i-preserved
loop-i-preserved c =
    let bytes = c.args.bytes.now in
    let i = c.loop-i.i in
    let chunk = ap (λ chunks. get_or chunks i []) c.as_chunks.ensures.front ∙ chunk_is i (length bytes / 16) bytes (omega (arith, c.loop-i-test.true)) in
    let e : 16 * i + 16 ≡ 16 * (i + 1) = omega arith in
    (λ j. c.loop-i.invariant j && (c.are_sixteen-are.ensures ∙ ap are chunk) j)
    ∙ more (16 * i) 16 bytes
    ∙ ap (λ n. are (take n bytes)) e
