use Rattle.std.proofs.Common.{◌≡◌, ◌+◌, ◌*◌, ◌≤◌, length, map, take}
use Rattle.std.specs.List.{All}
use Rattle.judy_query.specs.Ends.{value_at, IsEndIfAny}
use Rattle.judy_query.specs.Parts.{value_of}
use Rattle.judy_query.specs.Visits.{most_visits_down}
use Rattle.judy_query.proofs.many.go_down.Given as goal

abbrev pub invariant-keys : goal.invariant-keys
invariant-keys g l =
    (map value_at l.ends.items ≡ map (λ key. value_of l.tree.pairs key) (take l.key-index l.keys))
    × All (IsEndIfAny g.V.Words.WORDS) l.ends.items
    × (length l.ends.items ≡ l.key-index)
    × (l.initial.meter ≤ l.meter)
    × (l.meter ≤ l.initial.meter + l.key-index * most_visits_down)
