use Rattle.std.proofs.Common.{◌*◌, length, drop, set, refl, ap, ◌∙◌, arith}
use Rattle.judy_records.proofs.TextLemmas.{words-written}
use Rattle.judy_records.proofs.ChunkLemmas.{read-word, last-written}
use Rattle.judy_records.proofs.text.write.Goals as goal

pub loop-i-preserved : goal.loop-i-preserved
loop-i-preserved c =
    let bytes = c.args.bytes.now in
    let i = c.loop-i.i in
    let word = read-word i bytes c.as_chunks.result.0.now c.from_be_bytes.result (omega (arith, c.loop-i-test.true)) c.as_chunks.ensures.front c.from_be_bytes.ensures in
    ap (λ word. set c.loop-i.text i word) word
    ∙ words-written c.args.text.now c.loop-i.text bytes (drop (8 * i) bytes) i (omega (arith, c.loop-i-test.true)) c.loop-i.invariant refl

pub returns-then-not-is_empty : goal.returns-then-not-is_empty
returns-then-not-is_empty c =
    last-written c.args.bytes.now c.loop-i.i (length c.as_chunks.result.0.now) c.last_word.result (omega (arith, c.loop-i-test.false)) (omega (arith, c.loop-i-test.false))
    (grind (arith, c.if-not-is_empty.ensures)) c.last_word.ensures
    c.args.text.now c.loop-i.text c.requires c.loop-i.invariant
