use Rattle.std.proofs.Common.{◌≡◌, ℕ, ◌+◌, ◌-◌, ◌≤◌, List, length, take, drop, Option, sym, ap, ◌∙◌, arith}
use Rattle.std.specs.Prelude.{Result, Ok, Err, OnErr}
use Rattle.std.proofs.Math.Seq.{take-add}
use Rattle.judy_pipe.specs.Pipe.{grown, GrewByFront}
use Rattle.judy_pipe.proofs.Moves.{grown-grown}
use Rattle.judy_pipe.proofs.sink.write_all.Goals as goal

-- what the first write took and what the others took is a front
grew : {A E : Type 0} (result : Result A E) (known between after : Option (List ℕ)) (bytes : List ℕ) (first count : ℕ) → first ≤ count → count ≤ length bytes
    → between ≡ grown known (take first bytes) → after ≡ grown between (take (count - first) (drop first bytes)) → OnErr result (GrewByFront known bytes after)
grew (Ok value) known between after bytes first count order within begun more = tt
grew (Err error) known between after bytes first count order within begun more = (
  count,
  within,
  more
      ∙ ap (λ bytes_known. grown bytes_known (take (count - first) (drop first bytes))) begun
      ∙ grown-grown known (take first bytes) (take (count - first) (drop first bytes))
      ∙ ap (grown known) (sym (take-add first (count - first) bytes) ∙ ap (λ n. take n bytes) (omega arith)),
)

pub returns-clause-err : goal.returns-clause-err
returns-clause-err g c =
    grew c.write_on.result (g.W.Sink.taken c.args.sink.now) _ _ c.args.bytes.now c.unwrap_or-count.result c.write_on.new.count c.write_on.ensures.within.0 c.write_on.ensures.within.1
    (c.write.ensures.taken ∙ ap (λ n. grown (g.W.Sink.taken c.args.sink.now) (take n c.args.bytes.now)) (sym c.unwrap_or-count.ensures)) c.write_on.ensures.taken
