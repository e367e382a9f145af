-- What has been added up so far.
use Rattle.std.proofs.Common.{◌≡◌, take}
use Rattle.judy_sums.specs.Pairs.{sum_of}
use Rattle.judy_sums.proofs.chunk.sum.Given as goal

abbrev pub invariant-loop-entry : goal.invariant-loop-entry
invariant-loop-entry l = l.sum ≡ sum_of (take l.entry-index l.entries)
