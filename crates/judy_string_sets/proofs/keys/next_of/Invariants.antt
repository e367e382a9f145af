use Rattle.std.proofs.Common.{◌≡◌}
use Rattle.std.specs.FinMap.{len}
use Rattle.judy_string_sets.specs.Walks.{picked}
use Rattle.judy_string_sets.proofs.keys.next_of.Given as goal

-- those that were passed aren't meant
abbrev pub invariant-keys : goal.invariant-keys
invariant-keys g l = picked l.which l.keys.map l.other.map ≡ picked l.which l.fn.keys.map l.other.map

abbrev pub decreases-keys : goal.decreases-keys
decreases-keys g l = len l.keys.map
