use Rattle.std.proofs.Common.{◌≡◌, ◌-◌, ◌≤◌, length, map, take}
use Rattle.std.specs.FinMap.{contains_key}
use Rattle.judy_word.specs.Held.{map_in}
use Rattle.judy_word.proofs.tree_array.TreeArray.has_many.Given as goal

abbrev pub invariant-groups : goal.invariant-groups
invariant-groups g l =
    (l.at ≤ length l.keys)
    × (length l.there ≡ length l.keys)
    × (take l.at l.there ≡ map (λ key. contains_key (map_in l.self) key) (take l.at l.keys))

abbrev pub decreases-groups : goal.decreases-groups
decreases-groups g l = length l.keys - l.at
