-- Where a walk up through the keys of an array stands: at a cursor, or at the place of the key that it took last.
use Rattle.std.specs.Prelude.{ℕ, zero, suc, ◌≤◌, true, ⊤, [], unwrap_or}
use Rattle.std.specs.FinMap.{len}
use Rattle.judy_model.specs.Counts.{by_count}
use Rattle.judy_sl.specs.Cursors.{Standing}
use Rattle.judy_string_sets.specs.declared.keys.Way.{Way}
use Rattle.judy_string_sets.specs.declared.keys.Way.TheVariants.{ByCursor, ByPlace}
use Rattle.judy_string_sets.specs.Walks.{Strings, to_come}

-- The keys behind the first so many.
abbrev pub behind : Strings → ℕ → Strings
behind map zero = map
behind map (suc n) = to_come true map (unwrap_or (by_count map (suc n)) [])

-- They are still to come, where so many were taken.
abbrev pub standing : Strings → Way → Standing
standing map (ByCursor walk) = walk
standing map (ByPlace n) = record { map = behind map n; key = unwrap_or (by_count map n) [] }

-- The array has so many keys.
abbrev pub IsInside : Strings → Way → Type 0
IsInside map (ByCursor walk) = ⊤
IsInside map (ByPlace n) = n ≤ len map
