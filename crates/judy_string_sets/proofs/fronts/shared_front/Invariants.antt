use Rattle.std.proofs.Common.{◌≡◌, ◌+◌, ◌-◌, ◌≤◌, length, drop}
use Rattle.judy_model.specs.DumpText.{shared_length}
use Rattle.judy_string_sets.proofs.fronts.shared_front.Given as goal

-- So many bytes are shared, and what more is shared stands behind them.
abbrev pub invariant-bytes : goal.invariant-bytes
invariant-bytes l =
    (l.shared ≤ length l.key) × (l.shared ≤ length l.bytes)
    × (shared_length l.key l.bytes ≡ l.shared + shared_length (drop l.shared l.key) (drop l.shared l.bytes))

abbrev pub decreases-bytes : goal.decreases-bytes
decreases-bytes l = length l.key - l.shared
