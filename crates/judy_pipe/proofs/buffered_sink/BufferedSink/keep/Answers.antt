use Rattle.std.proofs.Common.{◌≡◌, ◌+◌, ◌-◌, ◌≤◌, ◌∙◌, ap, arith, rules, take, drop, length, take_all}
use Rattle.judy_pipe.specs.Pipe.{grown}
use Rattle.judy_pipe.proofs.Moves.{grown-kept}
use Rattle.judy_pipe.proofs.buffered_sink.BufferedSink.keep.Goals as goal

pub returns-clause-taken : goal.returns-clause-taken
returns-clause-taken g c =
    let self = c.args.self.now in
    let piece = c.args.piece.now in
    let known = g.W.Sink.taken self.inner in
    let len : length self.buffer ≡ g.row.N = search rules in
    let within : self.end ≤ g.row.N = self.within in
    rw c.copy_from_slice.ensures.after
    (grown-kept known self.buffer piece self.sent self.end (self.end + length piece - self.end) (length piece) self.ordered (omega arith) (omega arith)
    ∙ ap (grown (grown known (take (self.end - self.sent) (drop self.sent self.buffer)))) (take_all (length piece) piece (omega arith)))
