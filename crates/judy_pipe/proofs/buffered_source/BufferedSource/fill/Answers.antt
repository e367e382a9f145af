use Rattle.std.proofs.Common.{◌≡◌, ◌-◌, ◌+◌, ◌≤◌, ℕ, List, take, drop, length, arith, rules, ap, sym, ◌∙◌, length-drop}
use Rattle.std.proofs.lemmas.List.{length-take-le, take-take}
use Rattle.judy_pipe.specs.Pipe.{grown, without}
use Rattle.judy_pipe.proofs.Ahead.{given_next, kept_next, kept_drop}
use Rattle.judy_pipe.proofs.buffered_source.BufferedSource.fill.Goals as goal

-- so many bytes stand in the buffer from one place to another within it
length_kept : (buffer : List ℕ) (next end size : ℕ) → length buffer ≡ size → next ≤ end → end ≤ size → length (take (end - next) (drop next buffer)) ≡ end - next
length_kept buffer next end size len ordered within =
    let left = length-drop next buffer in
    length-take-le (end - next) (drop next buffer) (omega arith)

pub invariant_of-self-clause-keeps : goal.invariant_of-self-clause-keeps
invariant_of-self-clause-keeps g c =
    let self = c.args.self.now in
    let count = length c.args.room.now in
    let kept = take (self.end - self.next) (drop self.next self.buffer) in
    let len = length_kept self.buffer self.next self.end g.row.N (search rules) self.ordered self.within in
    let some : count ≤ self.end - self.next = c.requires in
    let fewer : self.end - (self.next + count) ≡ self.end - self.next - count = omega arith in
    ap (λ n. grown (without (g.R.Source.given self.inner) n) (take (self.end - (self.next + count)) (drop (self.next + count) self.buffer))) fewer
    ∙ ap (grown (without (g.R.Source.given self.inner) (self.end - self.next - count))) (sym (kept_drop self.buffer self.next self.end count (omega arith)))
    ∙ kept_next (g.R.Source.given self.inner) kept (self.end - self.next) count len some self.keeps

pub returns-clause-given : goal.returns-clause-given
returns-clause-given g c =
    let self = c.args.self.now in
    let count = length c.args.room.now in
    let kept = take (self.end - self.next) (drop self.next self.buffer) in
    let len = length_kept self.buffer self.next self.end g.row.N (search rules) self.ordered self.within in
    let some : count ≤ self.end - self.next = c.requires in
    let fewer : self.end - (self.next + count) ≡ self.end - self.next - count = omega arith in
    let copied : c.copy_from_slice.new.self ≡ take count kept =
    c.copy_from_slice.ensures.after ∙ ap (λ n. take n (drop self.next self.buffer)) (omega arith) ∙ sym (take-take count (self.end - self.next) (drop self.next self.buffer) some) in
    ap (without (g.R.Source.given self.inner)) fewer
    ∙ given_next (g.R.Source.given self.inner) kept (self.end - self.next) count len some self.keeps
    ∙ ap (grown (without (g.R.Source.given self.inner) (self.end - self.next))) (sym copied)
