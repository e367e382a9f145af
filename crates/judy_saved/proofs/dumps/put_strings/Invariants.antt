use Rattle.std.proofs.Common.{◌≡◌, ℕ, ◌+◌, ◌*◌, ◌≤◌, [], ◌++◌, take, unwrap_or}
use Rattle.std.specs.List.{flat_map}
use Rattle.std.specs.FinMap.{entries}
use Rattle.judy_model.specs.DumpText as text
use Rattle.judy_model.specs.DumpText.{beside_before}
use Rattle.judy_shelf.specs.LastKeys.{last_key}
use Rattle.judy_shelf.specs.Versions.{format_of}
use Rattle.judy_shelf.proofs.SharedLemmas.{key_before}
use Rattle.judy_shelf.proofs.WalkLemmas.{IsAt, to_come}
use Rattle.judy_saved.specs.Rooms.{Adds}
use Rattle.judy_saved.proofs.dumps.put_strings.Given as goal

-- the entries before a place are written, the walk through the map stands there, and the key before it is kept
abbrev pub invariant-keys : goal.invariant-keys
invariant-keys g l = record {
  place : ℕ;
  stands : IsAt l.strings.map place l.cursor.key l.next;
  ends : l.end ≤ l.at + 1036 * place;
  adds : Adds (flat_map (λ beside. text.string_key (format_of l.version) beside.0 beside.1.0 ++ text.word beside.1.1) (take place (beside_before [] (entries l.strings.map)))) l.at l.fn.room
      l.end l.room;
  kept : unwrap_or (last_key l.last) [] ≡ key_before [] (entries l.strings.map) place;
  same : l.cursor.map ≡ l.strings.map;
}

abbrev pub decreases-keys : goal.decreases-keys
decreases-keys g l = to_come l.strings.map l.cursor.key l.next
