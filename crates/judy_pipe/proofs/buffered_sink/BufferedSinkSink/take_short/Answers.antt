use Rattle.std.proofs.Common.{◌≡◌, ◌+◌, ◌-◌, ◌≤◌, arith, rules, length}
use Rattle.judy_pipe.proofs.Moves.{grown-kept}
use Rattle.judy_pipe.proofs.buffered_sink.BufferedSinkSink.take_short.Goals as goal

pub returns-clause-taken : goal.returns-clause-taken
returns-clause-taken g c =
    let self = c.args.self.now in
    let len : length self.buffer ≡ g.row.N = search rules in
    let room : length c.args.room.now ≡ 32 = search rules in
    let within : self.end ≤ g.row.N = self.within in
    let some : c.args.count ≤ 32 = c.requires in
    rw c.copy_from_slice.ensures.after
    (grown-kept (g.W.Sink.taken self.inner) self.buffer c.args.room.now self.sent self.end (self.end + 32 - self.end) c.args.count self.ordered (omega arith) (omega arith))
