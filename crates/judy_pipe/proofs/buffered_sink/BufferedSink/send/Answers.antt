use Rattle.std.proofs.Common.{◌≡◌, ◌-◌, ◌≤◌, ◌∙◌, ap, sym, arith, rules, take, drop, length}
use Rattle.std.proofs.lemmas.List.{length-take-le}
use Rattle.judy_pipe.specs.Pipe.{grown}
use Rattle.judy_pipe.proofs.Moves.{grown-sent}
use Rattle.judy_pipe.proofs.buffered_sink.BufferedSink.send.Goals as goal

pub returns-clause-taken : goal.returns-clause-taken
returns-clause-taken g c =
    let self = c.args.self.now in
    let known = g.W.Sink.taken self.inner in
    let len : length self.buffer ≡ g.row.N = search rules in
    let within : self.end ≤ g.row.N = self.within in
    let held : length (take self.end self.buffer) ≡ self.end = length-take-le self.end self.buffer (omega arith) in
    let all : c.write_on.new.count ≡ self.end = c.in_ok-write_on.ensures.ok ∙ held in
    let none : self.end - c.write_on.new.count ≡ 0 = omega arith in
    ap (λ n. grown (g.W.Sink.taken c.write_on.new.sink) (take n (drop c.write_on.new.count self.buffer))) (sym none)
    ∙ ap (λ taken. grown taken (take (self.end - c.write_on.new.count) (drop c.write_on.new.count self.buffer))) c.write_on.ensures.taken
    ∙ grown-sent known self.buffer self.sent c.write_on.new.count self.end c.write_on.ensures.within.0 (omega arith)

pub returns-in_err-write_on-clause-taken : goal.returns-in_err-write_on-clause-taken
returns-in_err-write_on-clause-taken g c =
    let self = c.args.self.now in
    let known = g.W.Sink.taken self.inner in
    let len : length self.buffer ≡ g.row.N = search rules in
    let within : self.end ≤ g.row.N = self.within in
    let held : length (take self.end self.buffer) ≡ self.end = length-take-le self.end self.buffer (omega arith) in
    ap (λ taken. grown taken (take (self.end - c.write_on.new.count) (drop c.write_on.new.count self.buffer))) c.write_on.ensures.taken
    ∙ grown-sent known self.buffer self.sent c.write_on.new.count self.end c.write_on.ensures.within.0 (omega (arith, c.write_on.ensures.within.1))
