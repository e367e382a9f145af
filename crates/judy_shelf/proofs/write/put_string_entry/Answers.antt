use Rattle.judy_model.specs.DumpText as text
use Rattle.judy_shelf.specs.Writes.{sunk}
use Rattle.judy_shelf.proofs.WriteLemmas.{wrote_err, wrote_first, wrote_then}
use Rattle.judy_shelf.proofs.write.put_string_entry.Goals as goal

pub returns-in_err-put_string : goal.returns-in_err-put_string
returns-in_err-put_string g c =
    let before = sunk (g.W.Sink.taken c.args.sink.now) (g.W.Sink.tally c.args.sink.now).failures in
    let after = sunk (g.W.Sink.taken c.put_string.new.sink) (g.W.Sink.tally c.put_string.new.sink).failures in
    wrote_err _ before after _ c.from_residual.result c.from_residual.ensures.1 (wrote_first (text.string c.args.key.now) (text.word c.args.value) before after c.in_err-put_string.ensures)

pub returns : goal.returns
returns g c =
    let before = sunk (g.W.Sink.taken c.args.sink.now) (g.W.Sink.tally c.args.sink.now).failures in
    let mid = sunk (g.W.Sink.taken c.put_string.new.sink) (g.W.Sink.tally c.put_string.new.sink).failures in
    let after = sunk (g.W.Sink.taken c.put_word.new.sink) (g.W.Sink.tally c.put_word.new.sink).failures in
    wrote_then (text.string c.args.key.now) (text.word c.args.value) before mid after c.put_word.result c.in_ok-put_string.ensures c.put_word.ensures
