-- The entries of a level that are still to come, and those of the level above it where they are kept: of each some are read, and those behind them
-- stand in the first or in the second place, where they were made.
use Rattle.std.specs.Prelude.{ℕ, Bool, List, [], ◌++◌, Option, None, Some, unwrap_or, if◌then◌else◌}

abbrev pub own_and_above : List (ℕ × ℕ) → List (ℕ × ℕ) → Option (List (ℕ × ℕ)) → Option (List (ℕ × ℕ)) → Bool → Bool → List (ℕ × ℕ) × Option (List (ℕ × ℕ))
own_and_above read read_above first second turned kept =
    (read ++ unwrap_or (if turned then second else first) [], if kept then Some (read_above ++ unwrap_or (if turned then first else second) []) else None)
