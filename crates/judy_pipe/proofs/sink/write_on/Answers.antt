use Rattle.std.proofs.Common.{rules, List, ℕ, length, take, drop, arith, ap, length-drop, ◌≡◌, ◌-◌, ◌≤◌, ◌<◌, ◌∙◌}
use Rattle.std.specs.Result.{result_unwrap_or}
use Rattle.std.proofs.lemmas.List.{take_rest}
use Rattle.judy_pipe.specs.Pipe.{grown}
use Rattle.judy_pipe.proofs.Moves.{grown-on, moved_within}
use Rattle.judy_pipe.proofs.Counts.{after_write-failures, after_write-fewer}
use Rattle.judy_pipe.proofs.sink.write_on.Goals as goal

length_rest : (bytes : List ℕ) (count : ℕ) → length (take (length bytes - count) (drop count bytes)) ≡ length bytes - count
length_rest bytes count = rw take_rest (length-drop count bytes)

pub loop-count-preserved : goal.loop-count-preserved
loop-count-preserved g c =
    let bytes = c.args.bytes.now in
    let count = c.loop-count.count in
    let piece = take (length bytes - count) (drop count bytes) in
    let within : result_unwrap_or c.write.result 0 ≤ length piece = moved_within c.write.result (length piece) c.write.ensures.count in
    let grew = after_write-failures (g.W.Sink.tally c.loop-count.sink) piece c.write.result in
    let rest = length_rest bytes count in
    record {
      begun = omega (arith, c.loop-count.invariant.begun);
      within = omega arith;
      taken =
          rw c.unwrap_or.ensures (c.write.ensures.taken ∙ ap (λ known. grown known (take (result_unwrap_or c.write.result 0) piece)) c.loop-count.invariant.taken ∙
          grown-on (g.W.Sink.taken c.args.sink.now) bytes c.args.count.now count (result_unwrap_or c.write.result 0) c.loop-count.invariant.begun);
      failures = omega (arith, ap (λ t. t.failures) c.write.ensures.tally);
      before = c.loop-count.invariant.before;
    }

pub loop-count-smaller : goal.loop-count-smaller
loop-count-smaller g c =
    let bytes = c.args.bytes.now in
    let count = c.loop-count.count in
    let piece = take (length bytes - count) (drop count bytes) in
    let tally = g.W.Sink.tally c.loop-count.sink in
    let rest = length_rest bytes count in
    let some : 0 < length piece = omega arith in
    let grew = after_write-failures tally piece c.write.result in
    let fewer = after_write-fewer tally piece c.write.result some c.write.ensures.count (omega (arith, ap (λ t. t.failures) c.write.ensures.tally)) in
    rw c.write.ensures.tally (omega arith)

pub returns-clause-ok : goal.returns-clause-ok
returns-clause-ok g c = search rules
