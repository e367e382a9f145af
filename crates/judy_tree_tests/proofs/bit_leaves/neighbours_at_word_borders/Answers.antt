use Rattle.std.proofs.Common.{rules}
use Rattle.std.specs.List.Sorted.{IsStrictlySortedBy}
use Rattle.judy_tree_tests.proofs.bit_leaves.neighbours_at_word_borders.Goals as goal

pub from_sorted-requires-clause-list : goal.from_sorted-requires-clause-list
unfolding IsStrictlySortedBy
from_sorted-requires-clause-list g c = record { some = search rules; most = search rules; ascending = search rules; below = search rules }
