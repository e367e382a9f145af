use Rattle.std.proofs.Common.{◌*◌, length, drop, get_or, refl, sym, ap, ◌∙◌, arith}
use Rattle.std.proofs.lemmas.Bool.{false≢true}
use Rattle.judy_records.specs.Texts.{words_for}
use Rattle.judy_records.proofs.TextLemmas.{length-words, same-more, both-true}
use Rattle.judy_records.proofs.ChunkLemmas.{read-word, last-same}
use Rattle.judy_records.proofs.text.is_of.Goals as goal

pub returns-then-text-words_for : goal.returns-then-text-words_for
returns-then-text-words_for c =
    (λ is. absurd (false≢true is), λ e. absurd (c.if-text-words_for.true (ap length e ∙ length-words (words_for (length c.args.bytes.now)) c.args.bytes.now ∙ sym c.words_for.ensures)))

pub loop-i-preserved : goal.loop-i-preserved
loop-i-preserved c =
    let bytes = c.args.bytes.now in
    let i = c.loop-i.i in
    let word = read-word i bytes c.as_chunks.result.0.now c.from_be_bytes.result (omega (arith, c.loop-i-test.true)) c.as_chunks.ensures.front c.from_be_bytes.ensures in
    let both = both-true c.loop-i.same (get_or c.args.text.now i 0) c.from_be_bytes.result in
    let more = same-more c.args.text.now bytes (drop (8 * i) bytes) i (omega (arith, c.loop-i-test.true, c.if-text-words_for.false)) refl in (
      λ is. let parts = both.0 is in more.0 (c.loop-i.invariant.0 parts.0, parts.1 ∙ word),
      λ same. let parts = more.1 same in both.1 (c.loop-i.invariant.1 parts.0) (parts.1 ∙ sym word),
    )

pub returns-then-not-is_empty : goal.returns-then-not-is_empty
returns-then-not-is_empty c =
    last-same c.args.bytes.now c.loop-i.i (length c.as_chunks.result.0.now) c.last_word.result (omega (arith, c.loop-i-test.false)) (omega (arith, c.loop-i-test.false))
    (grind (arith, c.if-not-is_empty.ensures)) c.last_word.ensures
    c.args.text.now c.loop-i.same (c.if-text-words_for.false ∙ c.words_for.ensures) c.loop-i.invariant
