use Rattle.std.proofs.Common.{◌≡◌, ◌≤◌, ◌-◌, length, take}
use Rattle.judy_model.specs.DumpText.{array_text}
use Rattle.judy_shelf.specs.Shelves.{store_of}
use Rattle.judy_shelf.specs.Sorted.{sorted_lists}
use Rattle.judy_shelf.specs.Versions.{format_of}
use Rattle.judy_shelf.specs.Writes.{sunk}
use Rattle.judy_shelf.proofs.WalkLemmas.{Written}
use Rattle.judy_shelf.proofs.DumpParts.{headed}
use Rattle.judy_shelf.proofs.dumps.write_shelf.Given as goal

-- behind the heading the arrays before the place are written, and so many lists are theirs
abbrev pub invariant-arrays : goal.invariant-arrays
invariant-arrays g l =
    (l.listed ≡ length (sorted_lists (take l.place l.shelf))) × (l.listed ≤ l.place)
    × Written (array_text (format_of l.version)) (store_of l.shelf) (headed (format_of l.version) l.shelf (sunk (g.W.Sink.taken l.fn.sink) (g.W.Sink.tally l.fn.sink).failures)) l.place
    (sunk (g.W.Sink.taken l.sink) (g.W.Sink.tally l.sink).failures)

abbrev pub decreases-arrays : goal.decreases-arrays
decreases-arrays g l = length l.shelf - l.place
