use Rattle.std.proofs.Common.{◌≡◌, take}
use Rattle.judy_leaf.specs.KeyLists.{keys_of}
use Rattle.judy_node.proofs.bits.bits_of_leaf.Given as goal

abbrev pub invariant-loop-at : goal.invariant-loop-at
invariant-loop-at g l = l.bits ≡ take l.at (keys_of l.leaf.pairs)
