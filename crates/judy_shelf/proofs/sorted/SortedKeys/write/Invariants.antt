use Rattle.std.proofs.Common.{◌++◌}
use Rattle.judy_model.specs.DumpText as text
use Rattle.judy_shelf.specs.Sorted.{pairs_in}
use Rattle.judy_shelf.specs.Writes.{sunk}
use Rattle.judy_shelf.proofs.WalkLemmas.{Written}
use Rattle.judy_shelf.proofs.sorted.SortedKeys.write.Given as goal

-- the entries before the next one are written
abbrev pub invariant-entries : goal.invariant-entries
invariant-entries g l =
    Written (λ entry. text.string entry.0 ++ text.word entry.1) (pairs_in l.self) (sunk (g.W.Sink.taken l.fn.sink) (g.W.Sink.tally l.fn.sink).failures) l.entry-index
    (sunk (g.W.Sink.taken l.sink) (g.W.Sink.tally l.sink).failures)
