use Rattle.std.proofs.Common.{◌≤◌, ◌+◌, ◌*◌, ◌++◌, take}
use Rattle.std.specs.List.{flat_map}
use Rattle.judy_model.specs.DumpText as text
use Rattle.judy_hs.specs.Listed.{entries_in}
use Rattle.judy_saved.specs.Rooms.{Adds}
use Rattle.judy_saved.proofs.dumps.put_byte_strings.Given as goal

-- the entries that came are written
abbrev pub invariant-entries : goal.invariant-entries
invariant-entries l = record {
  ends : l.end ≤ l.at + 1034 * l.entry-index;
  adds : Adds (flat_map (λ entry. text.string entry.0 ++ text.word entry.1) (take l.entry-index (entries_in l.entries))) l.at l.fn.room l.end l.room;
}
