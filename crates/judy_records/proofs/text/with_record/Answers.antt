use Rattle.std.proofs.Common.{◌*◌, ◌%◌, ◌<◌, ◌∷◌, ◌++◌, [], length, drop, refl, ap, ◌∙◌, arith}
use Rattle.judy_records.specs.Texts.{words_in}
use Rattle.judy_records.proofs.TextLemmas.{words-pushed, length-pushed, length-words}
use Rattle.judy_records.proofs.ChunkLemmas.{read-word, last-pushed}
use Rattle.judy_records.proofs.text.with_record.Goals as goal

pub push_reserved-requires-in-loop-i : goal.push_reserved-requires-in-loop-i
push_reserved-requires-in-loop-i c =
    let long = length-pushed c.args.words.items c.loop-i.words.items c.args.value (words_in c.loop-i.i c.args.bytes.now) c.loop-i.invariant.pushed in
    let count = length-words c.loop-i.i c.args.bytes.now in
    omega (arith, long, count, c.requires, c.loop-i.invariant.capacity, c.loop-i.words.ok, c.args.words.ok, c.loop-i-test.true)

pub loop-i-preserved : goal.loop-i-preserved
loop-i-preserved c =
    let bytes = c.args.bytes.now in
    let i = c.loop-i.i in
    let word = read-word i bytes c.as_chunks.result.0.now c.from_be_bytes.result (omega (arith, c.loop-i-test.true)) c.as_chunks.ensures.front c.from_be_bytes.ensures in
    record {
      pushed =
          c.push_reserved-in-loop-i.ensures.items ∙ ap (λ word. c.loop-i.words.items ++ word ∷ []) word
          ∙ words-pushed c.args.words.items c.loop-i.words.items bytes (drop (8 * i) bytes) c.args.value i c.loop-i.invariant.pushed refl;
      capacity = c.push_reserved-in-loop-i.ensures.capacity ∙ c.loop-i.invariant.capacity;
    }

pub push_reserved-requires-then-not-is_empty : goal.push_reserved-requires-then-not-is_empty
push_reserved-requires-then-not-is_empty c =
    let long = length-pushed c.args.words.items c.loop-i.words.items c.args.value (words_in c.loop-i.i c.args.bytes.now) c.loop-i.invariant.pushed in
    let count = length-words c.loop-i.i c.args.bytes.now in
    let some : 0 < length c.args.bytes.now % 8 = grind (arith, c.if-not-is_empty.ensures) in
    omega (arith, long, count, some, c.requires, c.loop-i.invariant.capacity, c.loop-i.words.ok, c.args.words.ok, c.loop-i-test.false)

pub returns-then-not-is_empty-clause-words : goal.returns-then-not-is_empty-clause-words
returns-then-not-is_empty-clause-words c =
    c.push_reserved-then-not-is_empty.ensures.items
    ∙ last-pushed c.args.bytes.now c.loop-i.i (length c.as_chunks.result.0.now) c.last_word.result (omega (arith, c.loop-i-test.false)) (omega (arith, c.loop-i-test.false))
    (grind (arith, c.if-not-is_empty.ensures)) c.last_word.ensures
    c.args.words.items c.loop-i.words.items c.args.value c.loop-i.invariant.pushed
