-- The chunk at the lower end begins at the word or below it, if it isn't the first, and the one at the upper end above it.
use Rattle.std.proofs.Common.{◌-◌, ◌<◌, ◌≤◌, [], length, get_or}
use Rattle.judy_sums.specs.Chunks.{BeginsBy, BeginsAbove}
use Rattle.judy_sums.proofs.chunks.chunk_of.Given as goal

abbrev pub invariant-search : goal.invariant-search
invariant-search l = record {
  ordered : l.low < l.high;
  within : l.high ≤ length l.chunks;
  by : 0 < l.low → BeginsBy (get_or l.chunks l.low []) l.word;
  above : BeginsAbove (get_or l.chunks l.high []) l.word;
}

abbrev pub decreases-search : goal.decreases-search
decreases-search l = l.high - l.low
