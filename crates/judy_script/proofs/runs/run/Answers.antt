use Rattle.std.proofs.Common.{◌≡◌, ◌+◌, ◌≤◌, ◌++◌, suc, length, take, drop, refl, ◌∙◌, arith}
use Rattle.std.proofs.Math.Nat.{min-le_left, min-le_right}
use Rattle.std.proofs.lemmas.Bool.{lt-ltb}
use Rattle.std.proofs.lemmas.List.{length-append, length-take-le, length-drop, take_at}
use Rattle.judy_script.proofs.ReadLemmas.{Reading-nothing, Reading-piece, CutAtRead-here, RanToEnd-here, CutAtWrite-last, CutAtWrite-piece, CutAtWrite-most, CutAtMost-here, one_more-here}
use Rattle.judy_script.proofs.runs.run.Goals as goal

pub pieces-init : goal.pieces-init
pieces-init g c = record {
  reading = Reading-nothing _ _ _ _ _ _ c.new-buffers.ensures;
  room = refl;
  read_failures = refl;
  write_failures = refl;
  kept = λ none. none;
  content = refl;
  unfailing = refl;
}

pub returns-in_default-clause-left : goal.returns-in_default-clause-left
returns-in_default-clause-left g c = CutAtRead-here _ _ _ _ _ _ _ _ _ _ _ c.pieces.invariant.reading _ _ c.in_default.ensures.given

pub returns-in-Ok-finish-clause-run : goal.returns-in-Ok-finish-clause-run
returns-in-Ok-finish-clause-run g c =
    let fits : c.min.result + 1 ≤ length c.pieces.room = omega (arith, c.min.ensures, min-le_right c.pieces.left 65535, c.pieces.invariant.room) in
    let long : length (take (c.min.result + 1) c.pieces.room) ≡ suc c.min.result = omega (arith, length-take-le (c.min.result + 1) c.pieces.room fits) in
    RanToEnd-here _ _ _ _ _ _ _ _ _ _ _ c.pieces.invariant.reading _ _ _ _ (rw c.if-count-eq0.true at c.in-Ok.ensures.given)
    (rw (c.if-count-eq0.true, lt-ltb 0 (length (take (c.min.result + 1) c.pieces.room)) (omega (arith, long))) at c.in-Ok.ensures.ended) c.in-Ok-finish.ensures.ok

pub returns-in-Err-clause-left : goal.returns-in-Err-clause-left
returns-in-Err-clause-left g c =
    let fits : c.min.result + 1 ≤ length c.pieces.room = omega (arith, c.min.ensures, min-le_right c.pieces.left 65535, c.pieces.invariant.room) in
    let long : length (take (c.min.result + 1) c.pieces.room) ≡ suc c.min.result = omega (arith, length-take-le (c.min.result + 1) c.pieces.room fits) in
    CutAtWrite-last _ _ _ _ _ _ _ _ _ _ _ c.pieces.invariant.reading _ _ _ _ (rw c.if-count-eq0.true at c.in-Ok.ensures.given)
    (rw (c.if-count-eq0.true, lt-ltb 0 (length (take (c.min.result + 1) c.pieces.room)) (omega (arith, long))) at c.in-Ok.ensures.ended) c.in-Err.ensures.err

pub returns-in-Ok-feed-clause-left : goal.returns-in-Ok-feed-clause-left
returns-in-Ok-feed-clause-left g c =
    let fits : c.min.result + 1 ≤ length c.pieces.room = omega (arith, c.min.ensures, min-le_right c.pieces.left 65535, c.pieces.invariant.room) in
    let long : length (take (c.min.result + 1) c.pieces.room) ≡ suc c.min.result = omega (arith, length-take-le (c.min.result + 1) c.pieces.room fits) in
    let shown : take (c.min.result + 1) (c.read_some.new.room ++ drop (c.min.result + 1) c.pieces.room) ≡ c.read_some.new.room =
    take_at c.read_some.new.room (drop (c.min.result + 1) c.pieces.room) (c.min.result + 1) (omega (arith, c.read_some.auto.room, long)) in
    CutAtMost-here _ _ _ _ _ _ _ _ _ _ _ c.pieces.invariant.reading c.read_some.new.room c.in-Ok.count _ c.in-Ok.ensures.given
    (omega (arith, c.in-Ok.ensures.count, c.read_some.auto.room)) c.if-count-left.true _ c.feed.new.buffers.line _ _ (rw shown at c.in-Ok-feed.ensures.ok)

pub returns-in-Ok-feed-clause-one_more : goal.returns-in-Ok-feed-clause-one_more
returns-in-Ok-feed-clause-one_more g c told =
    let fits : c.min.result + 1 ≤ length c.pieces.room = omega (arith, c.min.ensures, min-le_right c.pieces.left 65535, c.pieces.invariant.room) in
    let long : length (take (c.min.result + 1) c.pieces.room) ≡ suc c.min.result = omega (arith, length-take-le (c.min.result + 1) c.pieces.room fits) in
    one_more-here _ _ _ _ _ _ _ _ _ _ _ c.pieces.invariant.reading c.read_some.new.room c.in-Ok.count _ c.in-Ok.ensures.given
    (omega (arith, c.in-Ok.ensures.count, c.read_some.auto.room)) c.if-count-left.true
    (omega (arith, c.in-Ok.ensures.count, long, c.min.ensures, min-le_left c.pieces.left 65535))

pub returns-in-Err-feed-clause-left : goal.returns-in-Err-feed-clause-left
returns-in-Err-feed-clause-left g c =
    let fits : c.min.result + 1 ≤ length c.pieces.room = omega (arith, c.min.ensures, min-le_right c.pieces.left 65535, c.pieces.invariant.room) in
    let long : length (take (c.min.result + 1) c.pieces.room) ≡ suc c.min.result = omega (arith, length-take-le (c.min.result + 1) c.pieces.room fits) in
    let shown : take (c.min.result + 1) (c.read_some.new.room ++ drop (c.min.result + 1) c.pieces.room) ≡ c.read_some.new.room =
    take_at c.read_some.new.room (drop (c.min.result + 1) c.pieces.room) (c.min.result + 1) (omega (arith, c.read_some.auto.room, long)) in
    CutAtWrite-most _ _ _ _ _ _ _ _ _ _ _ c.pieces.invariant.reading c.read_some.new.room c.in-Ok.count _ c.in-Ok.ensures.given
    (omega (arith, c.in-Ok.ensures.count, c.read_some.auto.room)) c.if-count-left.true _ _ _ (rw shown at c.in-Err-feed.ensures.err)

pub pieces-preserved : goal.pieces-preserved
pieces-preserved g c =
    let fits : c.min.result + 1 ≤ length c.pieces.room = omega (arith, c.min.ensures, min-le_right c.pieces.left 65535, c.pieces.invariant.room) in
    let long : length (take (c.min.result + 1) c.pieces.room) ≡ suc c.min.result = omega (arith, length-take-le (c.min.result + 1) c.pieces.room fits) in
    let shown : take (c.min.result + 1) (c.read_some.new.room ++ drop (c.min.result + 1) c.pieces.room) ≡ c.read_some.new.room =
    take_at c.read_some.new.room (drop (c.min.result + 1) c.pieces.room) (c.min.result + 1) (omega (arith, c.read_some.auto.room, long)) in
    let whole : length (c.read_some.new.room ++ drop (c.min.result + 1) c.pieces.room) ≡ 65536 = omega
    (arith, length-append c.read_some.new.room (drop (c.min.result + 1) c.pieces.room), length-drop (c.min.result + 1) c.pieces.room, c.read_some.auto.room, long, fits, c.pieces.invariant.room) in
    record {
      reading =
          Reading-piece _ _ _ _ _ _ _ _ _ _ _ c.pieces.invariant.reading c.read_some.new.room c.in-Ok.count _ c.in-Ok.ensures.given
          (omega (arith, c.in-Ok.ensures.count, c.read_some.auto.room)) _ _ _ _ _ c.in-Ok.ensures.ended c.if-count-left.false (rw shown at c.in-Ok-feed_and_flush.ensures.ok);
      room = whole;
      read_failures = c.in-Ok.ensures.failures ∙ c.pieces.invariant.read_failures;
      write_failures = c.in-Ok-feed_and_flush.ensures.failures ∙ c.pieces.invariant.write_failures;
      kept = λ none. c.in-Ok-feed_and_flush.ensures.handed_on (c.pieces.invariant.kept none);
      content = c.in-Ok.ensures.content ∙ c.pieces.invariant.content;
      unfailing = c.in-Ok.ensures.unfailing ∙ c.pieces.invariant.unfailing;
    }

pub returns-in-Err-feed_and_flush-clause-left : goal.returns-in-Err-feed_and_flush-clause-left
returns-in-Err-feed_and_flush-clause-left g c =
    let fits : c.min.result + 1 ≤ length c.pieces.room = omega (arith, c.min.ensures, min-le_right c.pieces.left 65535, c.pieces.invariant.room) in
    let long : length (take (c.min.result + 1) c.pieces.room) ≡ suc c.min.result = omega (arith, length-take-le (c.min.result + 1) c.pieces.room fits) in
    let shown : take (c.min.result + 1) (c.read_some.new.room ++ drop (c.min.result + 1) c.pieces.room) ≡ c.read_some.new.room =
    take_at c.read_some.new.room (drop (c.min.result + 1) c.pieces.room) (c.min.result + 1) (omega (arith, c.read_some.auto.room, long)) in
    CutAtWrite-piece _ _ _ _ _ _ _ _ _ _ _ c.pieces.invariant.reading c.read_some.new.room c.in-Ok.count _ c.in-Ok.ensures.given
    (omega (arith, c.in-Ok.ensures.count, c.read_some.auto.room)) _ _ _ c.if-count-left.false (rw shown at c.in-Err-feed_and_flush.ensures.err)
