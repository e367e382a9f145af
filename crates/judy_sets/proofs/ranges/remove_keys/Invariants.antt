use Rattle.std.proofs.Common.{◌≡◌, ◌+◌}
use Rattle.std.specs.FinMap.{len}
use Rattle.judy_model.specs.Ranges.{within, outside}
use Rattle.judy_sets.proofs.ranges.remove_keys.Given as goal

-- so many keys of the range were taken out, and the others stay
abbrev pub invariant-keys : goal.invariant-keys
invariant-keys g l = record {
  limit : l.array.limit ≡ l.fn.array.limit;
  left : outside l.array.map l.from l.to ≡ outside l.fn.array.map l.from l.to;
  counted : l.count + len (within l.array.map l.from l.to) ≡ len (within l.fn.array.map l.from l.to);
}

abbrev pub decreases-keys : goal.decreases-keys
decreases-keys g l = len l.array.map
