use Rattle.std.proofs.Common.{◌≡◌, ◌+◌, ◌*◌, ◌++◌, length}
use Rattle.std.specs.List.{flat_map}
use Rattle.std.specs.FinMap.{entries}
use Rattle.judy_model.specs.DumpText as text
use Rattle.judy_saved.specs.Rooms.{Adds}
use Rattle.judy_saved.proofs.dumps.put_entries.Given as goal

-- the entries that came are written
abbrev pub invariant-entries : goal.invariant-entries
invariant-entries l = record {
  came : entries l.words.map ≡ l.yielded ++ l.key-iterator;
  ends : l.end ≡ l.at + 16 * length l.yielded;
  adds : Adds (flat_map (λ entry. text.word entry.0 ++ text.word entry.1) l.yielded) l.at l.fn.room l.end l.room;
}
