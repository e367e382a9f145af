use Rattle.std.proofs.lemmas.Result.{on_err_weaker}
use Rattle.judy_script.proofs.FeedLemmas.{on_err_holds}
use Rattle.judy_store.proofs.Fronts.{front_of_second, front_of_third}
use Rattle.judy_store.proofs.end.write_three.Goals as goal

pub returns-in_err-write_all-2-clause-err : goal.returns-in_err-write_all-2-clause-err
returns-in_err-write_all-2-clause-err g c =
    on_err_holds c.from_residual-in_err-write_all-2.result
    (front_of_second c.args.head.now c.args.subject.now c.args.tail.now (g.W.Sink.taken c.args.sink.now) (g.W.Sink.taken c.write_all.new.sink) c.in_ok-write_all.ensures.ok
    (g.W.Sink.taken c.write_all-2.new.sink) c.in_err-write_all-2.ensures.err)

pub returns-clause-err : goal.returns-clause-err
returns-clause-err g c =
    on_err_weaker c.write_all-3.result
    (front_of_third c.args.head.now c.args.subject.now c.args.tail.now (g.W.Sink.taken c.args.sink.now) (g.W.Sink.taken c.write_all.new.sink) c.in_ok-write_all.ensures.ok
    (g.W.Sink.taken c.write_all-2.new.sink) (g.W.Sink.taken c.write_all-3.new.sink) c.in_ok-write_all-2.ensures.ok)
    c.write_all-3.ensures.err
