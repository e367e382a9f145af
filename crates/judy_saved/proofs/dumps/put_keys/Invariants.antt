use Rattle.std.proofs.Common.{◌≡◌, ◌+◌, ◌*◌, ◌++◌, length}
use Rattle.std.specs.List.{flat_map}
use Rattle.std.specs.FinMap.{keys}
use Rattle.judy_model.specs.DumpText as text
use Rattle.judy_saved.specs.Rooms.{Adds}
use Rattle.judy_saved.proofs.dumps.put_keys.Given as goal

-- the keys that came are written
abbrev pub invariant-keys : goal.invariant-keys
invariant-keys l = record {
  came : keys l.set.map ≡ l.yielded ++ l.key-iterator;
  ends : l.end ≡ l.at + 8 * length l.yielded;
  adds : Adds (flat_map text.word l.yielded) l.at l.fn.room l.end l.room;
}
