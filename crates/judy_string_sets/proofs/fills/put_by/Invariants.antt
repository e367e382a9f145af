use Rattle.std.proofs.Common.{◌≡◌, length}
use Rattle.std.specs.FinMap.{len}
use Rattle.judy_model.specs.Arrays.{with_map}
use Rattle.judy_model.specs.TwoMaps.{union}
use Rattle.judy_sl.specs.Arenas.{AreWithin}
use Rattle.judy_string_sets.specs.Walks.{picked}
use Rattle.judy_string_sets.proofs.fills.put_by.Given as goal

-- with those that are left, each of which fits the buffer, the array comes to what it does with all
abbrev pub invariant-keys : goal.invariant-keys
invariant-keys g l = record {
  made : with_map l.made (union (picked l.which l.keys.map l.other.map) l.made.map) ≡ with_map l.fn.made (union (picked l.which l.one.map l.other.map) l.fn.made.map);
  fit : AreWithin (length l.buffer) (picked l.which l.keys.map l.other.map);
}

abbrev pub decreases-keys : goal.decreases-keys
decreases-keys g l = len (picked l.which l.keys.map l.other.map)
