use Rattle.std.proofs.Common.{◌≡◌, ℕ, [], ◌++◌, unwrap_or}
use Rattle.std.specs.FinMap.{entries}
use Rattle.judy_model.specs.DumpText as text
use Rattle.judy_model.specs.DumpText.{beside_before}
use Rattle.judy_shelf.specs.LastKeys.{last_key}
use Rattle.judy_shelf.specs.Versions.{format_of}
use Rattle.judy_shelf.specs.Writes.{sunk}
use Rattle.judy_shelf.proofs.SharedLemmas.{key_before}
use Rattle.judy_shelf.proofs.WalkLemmas.{Written, IsAt, to_come}
use Rattle.judy_shelf.proofs.dumps.write_strings.Given as goal

-- the entries before a place are written, the walk through the map stands there, and the key before it is kept
abbrev pub invariant-keys : goal.invariant-keys
invariant-keys g l =
    (place : ℕ) × IsAt l.strings.map place l.cursor.key l.next
    × Written (λ beside. text.string_key (format_of l.version) beside.0 beside.1.0 ++ text.word beside.1.1) (beside_before [] (entries l.strings.map))
    (sunk (g.W.Sink.taken l.fn.sink) (g.W.Sink.tally l.fn.sink).failures) place (sunk (g.W.Sink.taken l.sink) (g.W.Sink.tally l.sink).failures)
    × (unwrap_or (last_key l.last) [] ≡ key_before [] (entries l.strings.map) place)
    × (l.cursor.map ≡ l.strings.map)

abbrev pub decreases-keys : goal.decreases-keys
decreases-keys g l = to_come l.strings.map l.cursor.key l.next
