use Rattle.std.proofs.Common.{◌≤◌, length}
use Rattle.judy_shelf.specs.Shelves.{store_of}
use Rattle.judy_shelf.specs.Versions.{format_of}
use Rattle.judy_shelf.specs.Reads.{drawn}
use Rattle.judy_shelf.proofs.ArrayReads.{ArraysRead}
use Rattle.judy_shelf.proofs.loads.read_arrays.Given as goal

-- so far these arrays were read
abbrev pub invariant-arrays : goal.invariant-arrays
invariant-arrays g l =
    (length l.shelf ≤ l.counter)
    × ArraysRead (format_of l.version) l.counter (store_of l.shelf) (drawn (g.R.Source.given l.fn.source) (g.R.Source.ended l.fn.source) (g.R.Source.tally l.fn.source).failures)
    (drawn (g.R.Source.given l.source) (g.R.Source.ended l.source) (g.R.Source.tally l.source).failures)
