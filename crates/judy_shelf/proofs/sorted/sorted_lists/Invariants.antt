use Rattle.std.proofs.Common.{◌≡◌, ◌-◌, length, take}
use Rattle.judy_shelf.specs.Sorted.{lists_in, sorted_lists}
use Rattle.judy_shelf.proofs.sorted.sorted_lists.Given as goal

-- the lists of the arrays before the place are made
abbrev pub invariant-arrays : goal.invariant-arrays
invariant-arrays l = lists_in l.lists.items ≡ sorted_lists (take l.place l.shelf)

abbrev pub decreases-arrays : goal.decreases-arrays
decreases-arrays l = length l.shelf - l.place
