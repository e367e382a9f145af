use Rattle.std.proofs.Common.{◌++◌, ◌-◌, ◌/◌, length, ap, sym, subst, arith}
use Rattle.std.specs.Int.{trailing_zeros, w64}
use Rattle.std.proofs.lemmas.List.{length-take-le}
use Rattle.judy_tails.proofs.TailLemmas.{full-text}
use Rattle.judy_tails.proofs.LastBytes.{text-front}
use Rattle.judy_tails.proofs.tail.push_bytes.Goals as goal

pub put_first-requires-clause-room : goal.put_first-requires-clause-room
put_first-requires-clause-room g c =
    let bytes = c.to_be_bytes-bytes.result in
    let count = 8 - trailing_zeros w64 c.args.word / 8 in
    let front = ap length (text-front c.args.word bytes c.to_be_bytes-bytes.ensures (omega (arith, c.ranges.word)) c.requires.begins) in
    let long = length-take-le count bytes (omega (arith, ap length c.to_be_bytes-bytes.ensures)) in
    omega (arith, front, long, c.requires.room)

pub returns-then-word-ne0-clause-has : goal.returns-then-word-ne0-clause-has
returns-then-word-ne0-clause-has g c = λ front is.
    subst (λ text. g.K.KeyWriter.has c.put_eight.new.self (front ++ text)) (sym (full-text c.args.word c.to_be_bytes-bytes.result c.to_be_bytes-bytes.ensures
    (c.requires.full c.if-word-ne0.true))) (c.put_eight.ensures.has front is)

pub returns-else-word-ne0-clause-len : goal.returns-else-word-ne0-clause-len
returns-else-word-ne0-clause-len g c =
    let bytes = c.to_be_bytes-bytes.result in
    let count = 8 - trailing_zeros w64 c.args.word / 8 in
    let front = ap length (text-front c.args.word bytes c.to_be_bytes-bytes.ensures (omega (arith, c.ranges.word)) c.requires.begins) in
    let long = length-take-le count bytes (omega (arith, ap length c.to_be_bytes-bytes.ensures)) in
    omega (arith, front, long, c.put_first.ensures.len)

pub returns-else-word-ne0-clause-has : goal.returns-else-word-ne0-clause-has
returns-else-word-ne0-clause-has g c = λ front is.
    subst (λ text. g.K.KeyWriter.has c.put_first.new.self (front ++ text)) (sym (text-front c.args.word c.to_be_bytes-bytes.result c.to_be_bytes-bytes.ensures
    (omega (arith, c.ranges.word)) c.requires.begins)) (c.put_first.ensures.has front is)
