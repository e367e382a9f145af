use Rattle.std.proofs.Common.{ℕ, List, ◌++◌, sym, subst}
use Rattle.std.proofs.Math.Numerals.{add-one}
use Rattle.judy_model.specs.DumpText as text
use Rattle.judy_hs.specs.Listed.{key_bytes}
use Rattle.judy_shelf.specs.Sorted.{pairs_in}
use Rattle.judy_shelf.specs.Writes.{sunk, WroteAll, WroteFront}
use Rattle.judy_shelf.proofs.WriteLemmas.{wrote_err}
use Rattle.judy_shelf.proofs.WalkLemmas.{Written, written_more, written_stop, written_all}
use Rattle.judy_shelf.proofs.SortedLemmas.{pair_at, no_pair_at}
use Rattle.judy_shelf.proofs.sorted.SortedKeys.write.Goals as goal

pub returns-in_err-put_string_entry : goal.returns-in_err-put_string_entry
returns-in_err-put_string_entry g c =
    let mid = sunk (g.W.Sink.taken c.entries.sink) (g.W.Sink.tally c.entries.sink).failures in
    let after = sunk (g.W.Sink.taken c.put_string_entry.new.sink) (g.W.Sink.tally c.put_string_entry.new.sink).failures in
    let list = c.args.self.now in
    let place = c.entries.entry-index in
    let entry = c.entry-item.result in
    let at = pair_at list c.as_slice-entries.result.now c.as_slice-entries.ensures.value place c.entries-test.true entry c.entry-item.is in
    wrote_err _ _ after _ c.from_residual.result c.from_residual.ensures.1
    (written_stop (λ (entry : List ℕ × ℕ). text.string entry.0 ++ text.word entry.1) (pairs_in list) _ place (key_bytes entry.key, entry.value) mid after c.entries.invariant at
    (subst (λ k. WroteFront (text.string k ++ text.word entry.value) mid after) c.bytes.ensures c.in_err-put_string_entry.ensures))

pub entries-preserved : goal.entries-preserved
entries-preserved g c =
    let before = sunk (g.W.Sink.taken c.args.sink.now) (g.W.Sink.tally c.args.sink.now).failures in
    let mid = sunk (g.W.Sink.taken c.entries.sink) (g.W.Sink.tally c.entries.sink).failures in
    let after = sunk (g.W.Sink.taken c.put_string_entry.new.sink) (g.W.Sink.tally c.put_string_entry.new.sink).failures in
    let list = c.args.self.now in
    let place = c.entries.entry-index in
    let entry = c.entry-item.result in
    let at = pair_at list c.as_slice-entries.result.now c.as_slice-entries.ensures.value place c.entries-test.true entry c.entry-item.is in
    subst (λ n. Written (λ (entry : List ℕ × ℕ). text.string entry.0 ++ text.word entry.1) (pairs_in list) before n after) (sym (add-one place))
    (written_more (λ (entry : List ℕ × ℕ). text.string entry.0 ++ text.word entry.1) (pairs_in list) before place (key_bytes entry.key, entry.value) mid after c.entries.invariant at
    (subst (λ k. WroteAll (text.string k ++ text.word entry.value) mid after) c.bytes.ensures c.in_ok-put_string_entry.ensures))

pub returns : goal.returns
returns g c =
    let list = c.args.self.now in
    written_all (λ (entry : List ℕ × ℕ). text.string entry.0 ++ text.word entry.1) (pairs_in list) _ c.entries.entry-index _ c.entries.invariant
    (no_pair_at list c.as_slice-entries.result.now c.as_slice-entries.ensures.value c.entries.entry-index c.entries-test.false)
