use Rattle.std.proofs.Common.{◌≡◌, ◌-◌, ◌≤◌, length, map, take}
use Rattle.judy_c.proofs.looks.tell_keys.Given as goal

abbrev pub invariant-groups : goal.invariant-groups
invariant-groups g l =
    (l.at ≤ length l.keys)
    × (length l.told ≡ length l.keys)
    × (take l.at l.told ≡ map (g.A.AsksMany.told_of l.array) (take l.at l.keys))

abbrev pub decreases-groups : goal.decreases-groups
decreases-groups g l = length l.keys - l.at
