use Rattle.std.proofs.Common.{◌≡◌, ◌-◌, ◌≤◌, length, map, take}
use Rattle.std.specs.FinMap.{get}
use Rattle.judy_word.specs.Held.{map_in}
use Rattle.judy_word.proofs.tree_array.TreeArray.get_many.Given as goal

abbrev pub invariant-groups : goal.invariant-groups
invariant-groups g l =
    (l.at ≤ length l.keys)
    × (length l.values ≡ length l.keys)
    × (take l.at l.values ≡ map (λ key. get (map_in l.self) key) (take l.at l.keys))

abbrev pub decreases-groups : goal.decreases-groups
decreases-groups g l = length l.keys - l.at
