use Rattle.std.proofs.Common.{length, subst}
use Rattle.judy_model.specs.WordBytes.{low_bytes}
use Rattle.judy_shelf.specs.Writes.{sunk, WroteAll, WroteFront}
use Rattle.judy_shelf.proofs.WriteLemmas.{wrote_err, wrote_first, wrote_then}
use Rattle.judy_shelf.proofs.write.put_string.Goals as goal

pub returns-in_err-put : goal.returns-in_err-put
returns-in_err-put g c =
    let before = sunk (g.W.Sink.taken c.args.sink.now) (g.W.Sink.tally c.args.sink.now).failures in
    let after = sunk (g.W.Sink.taken c.put.new.sink) (g.W.Sink.tally c.put.new.sink).failures in
    let long = low_bytes 2 (length c.args.key.now) in
    wrote_err _ before after _ c.from_residual.result c.from_residual.ensures.1 (wrote_first long c.args.key.now before after
    (subst (λ p. WroteFront p before after) c.len_bytes.ensures c.in_err-put.ensures))

pub returns : goal.returns
returns g c =
    let before = sunk (g.W.Sink.taken c.args.sink.now) (g.W.Sink.tally c.args.sink.now).failures in
    let mid = sunk (g.W.Sink.taken c.put.new.sink) (g.W.Sink.tally c.put.new.sink).failures in
    let after = sunk (g.W.Sink.taken c.put-2.new.sink) (g.W.Sink.tally c.put-2.new.sink).failures in
    let long = low_bytes 2 (length c.args.key.now) in
    wrote_then long c.args.key.now before mid after c.put-2.result (subst (λ p. WroteAll p before mid) c.len_bytes.ensures c.in_ok-put.ensures) c.put-2.ensures
