-- The word just before the lower end is less, and the one at the upper end isn't.
use Rattle.std.proofs.Common.{◌-◌, ◌<◌, ◌≤◌, length, get_or}
use Rattle.judy_sums.proofs.chunk.place.Given as goal

abbrev pub invariant-search : goal.invariant-search
invariant-search l = record {
  ordered : l.low ≤ l.high;
  within : l.high ≤ length l.entries;
  before : 0 < l.low → (get_or l.entries (l.low - 1) (0, 0)).0 < l.word;
  behind : l.high < length l.entries → l.word ≤ (get_or l.entries l.high (0, 0)).0;
}

abbrev pub decreases-search : goal.decreases-search
decreases-search l = l.high - l.low
