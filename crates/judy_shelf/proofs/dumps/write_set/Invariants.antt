use Rattle.std.proofs.Common.{◌≡◌, length}
use Rattle.std.specs.List.{flat_map}
use Rattle.std.specs.FinMap.{entries}
use Rattle.judy_model.specs.DumpText as text
use Rattle.judy_shelf.specs.Writes.{sunk}
use Rattle.judy_shelf.proofs.WalkLemmas.{IsRest}
use Rattle.judy_shelf.proofs.dumps.write_set.Given as goal

-- the keys to come are the rest
abbrev pub invariant-pages : goal.invariant-pages
invariant-pages g l =
    ((g.W.Sink.tally l.sink).failures ≡ (g.W.Sink.tally l.fn.sink).failures)
    × IsRest text.word (flat_map (λ entry. text.word entry.0) (entries l.set.map)) (sunk (g.W.Sink.taken l.fn.sink) (g.W.Sink.tally l.fn.sink).failures)
    (sunk (g.W.Sink.taken l.sink) (g.W.Sink.tally l.sink).failures) l.keys

abbrev pub decreases-pages : goal.decreases-pages
decreases-pages g l = length l.keys
