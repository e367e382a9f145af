use Rattle.std.proofs.Common.{◌-◌, ◌≤◌, length, take}
use Rattle.judy_combine.specs.Merges.{UpTo}
use Rattle.judy_sets.proofs.range_puts.count_up_to.Given as goal

abbrev pub invariant-pairs : goal.invariant-pairs
invariant-pairs l = record {
  within : l.count ≤ length l.pairs;
  inside : UpTo l.to (take l.count l.pairs);
}

abbrev pub decreases-pairs : goal.decreases-pairs
decreases-pairs l = length l.pairs - l.count
