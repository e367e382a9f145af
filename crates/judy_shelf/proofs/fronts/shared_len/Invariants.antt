use Rattle.std.proofs.Common.{◌≡◌, ◌+◌, ◌-◌, ◌≤◌, length, drop}
use Rattle.judy_model.specs.DumpText.{shared_length}
use Rattle.judy_shelf.proofs.fronts.shared_len.Given as goal

-- so many bytes are shared, and what more is shared stands behind them
abbrev pub invariant-bytes : goal.invariant-bytes
invariant-bytes l =
    (l.shared ≤ length l.before) × (l.shared ≤ length l.key)
    × (shared_length l.before l.key ≡ l.shared + shared_length (drop l.shared l.before) (drop l.shared l.key))

abbrev pub decreases-bytes : goal.decreases-bytes
decreases-bytes l = length l.before - l.shared
