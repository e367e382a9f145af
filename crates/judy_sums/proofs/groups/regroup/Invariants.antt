-- The groups so far are the sums of their numbers, and there are as many as there were.
use Rattle.std.proofs.Common.{◌≡◌, ◌-◌, length}
use Rattle.judy_sums.specs.Groups.{AreSums}
use Rattle.judy_sums.proofs.groups.regroup.Given as goal

abbrev pub invariant-groups : goal.invariant-groups
invariant-groups l = record { many : length l.groups.items ≡ length l.fn.groups.items; sums : AreSums l.group l.numbers l.groups.items }

abbrev pub decreases-groups : goal.decreases-groups
decreases-groups l = length l.groups.items - l.group
