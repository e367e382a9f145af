use Rattle.std.proofs.Common.{drop, ap, subst, ◌∙◌}
use Rattle.std.proofs.lemmas.List.{take_rest}
use Rattle.judy_model.specs.WordBytes.{low_bytes}
use Rattle.judy_model.specs.DumpText as text
use Rattle.judy_model.specs.DumpText.{shared_length}
use Rattle.judy_shelf.specs.Writes.{sunk, WroteAll, WroteFront, Wrote}
use Rattle.judy_shelf.proofs.WriteLemmas.{wrote_err, wrote_first, wrote_then}
use Rattle.judy_shelf.proofs.write.put_string_behind_front.Goals as goal

pub returns-in_err-put : goal.returns-in_err-put
returns-in_err-put g c =
    let before = sunk (g.W.Sink.taken c.args.sink.now) (g.W.Sink.tally c.args.sink.now).failures in
    let after = sunk (g.W.Sink.taken c.put.new.sink) (g.W.Sink.tally c.put.new.sink).failures in
    let shared = shared_length c.args.before.now c.args.key.now in
    let told = c.len_bytes.ensures ∙ ap (low_bytes 2) c.shared_len-shared.ensures.shared in
    wrote_err _ before after _ c.from_residual.result c.from_residual.ensures.1 (wrote_first (low_bytes 2 shared) (text.string (drop shared c.args.key.now)) before after
    (subst (λ p. WroteFront p before after) told c.in_err-put.ensures))

pub returns : goal.returns
returns g c =
    let before = sunk (g.W.Sink.taken c.args.sink.now) (g.W.Sink.tally c.args.sink.now).failures in
    let mid = sunk (g.W.Sink.taken c.put.new.sink) (g.W.Sink.tally c.put.new.sink).failures in
    let after = sunk (g.W.Sink.taken c.put_string.new.sink) (g.W.Sink.tally c.put_string.new.sink).failures in
    let shared = shared_length c.args.before.now c.args.key.now in
    let told = c.len_bytes.ensures ∙ ap (low_bytes 2) c.shared_len-shared.ensures.shared in
    wrote_then (low_bytes 2 shared) (text.string (drop shared c.args.key.now)) before mid after c.put_string.result (subst (λ p. WroteAll p before mid) told c.in_ok-put.ensures)
    (subst (λ key. Wrote (text.string key) mid c.put_string.result after) (take_rest c.args.key.now c.shared_len-shared.result ∙
    ap (λ n. drop n c.args.key.now) c.shared_len-shared.ensures.shared) c.put_string.ensures)
