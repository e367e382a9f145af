use Rattle.std.proofs.Common.{◌≡◌, ◌≤◌, count_by, nat_lt, take}
use Rattle.judy_leaf.specs.Packing.{places}
use Rattle.judy_leaf.proofs.packed.below_by_place.Given as goal

abbrev pub invariant-loop-at : goal.invariant-loop-at
invariant-loop-at g l = (l.below ≡ count_by (λ place. nat_lt place l.key) (take l.at (places g.row.W l.word))) × (l.below ≤ l.at)
