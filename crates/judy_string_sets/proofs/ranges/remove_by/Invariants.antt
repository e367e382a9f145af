use Rattle.std.proofs.Common.{◌≡◌, ◌+◌, ◌≤◌, length}
use Rattle.std.specs.FinMap.{len}
use Rattle.judy_sl.specs.Arenas.{AreWithin}
use Rattle.judy_string_sets.specs.Ends.{reaches, part, others}
use Rattle.judy_string_sets.proofs.ranges.remove_by.Given as goal

-- so many keys of the range were taken out, and the others stay, which fit the buffer
abbrev pub invariant-keys : goal.invariant-keys
invariant-keys g l = record {
  limit : l.array.limit ≡ l.fn.array.limit;
  left : others l.array.map l.from (reaches l.end l.bytes) ≡ others l.fn.array.map l.from (reaches l.end l.bytes);
  counted : l.count + len (part l.array.map l.from (reaches l.end l.bytes)) ≡ len (part l.fn.array.map l.from (reaches l.end l.bytes));
  fit : AreWithin (length l.buffer) l.array.map;
  room : length l.from ≤ length l.buffer;
}

abbrev pub decreases-keys : goal.decreases-keys
decreases-keys g l = len l.array.map
