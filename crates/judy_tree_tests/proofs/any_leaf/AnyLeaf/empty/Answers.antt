use Rattle.std.proofs.Common.{arith}
use Rattle.std.specs.List.Sorted.{IsStrictlySortedBy}
use Rattle.judy_tree_tests.proofs.any_leaf.AnyLeaf.empty.Goals as goal

pub from_sorted-requires-clause-list : goal.from_sorted-requires-clause-list
unfolding IsStrictlySortedBy
from_sorted-requires-clause-list g c = record { some = c.requires.some; most = c.requires.most; ascending = tt; below = tt }

pub from_sorted-requires-in-Bitmap-clause-list : goal.from_sorted-requires-in-Bitmap-clause-list
unfolding IsStrictlySortedBy
from_sorted-requires-in-Bitmap-clause-list g c = record { some = omega arith; most = omega arith; ascending = tt; below = tt }
