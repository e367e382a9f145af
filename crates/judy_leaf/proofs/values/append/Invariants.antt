use Rattle.std.proofs.Common.{◌≡◌, ◌+◌, ◌++◌, length, take}
use Rattle.judy_leaf.specs.KeyLists.{values_of}
use Rattle.judy_leaf.proofs.values.append.Given as goal

abbrev pub invariant-loop-at : goal.invariant-loop-at
invariant-loop-at l =
    (l.block.capacity ≡ l.initial.block.capacity) × (l.block.tag ≡ l.initial.block.tag) × (length l.block.words ≡ length l.initial.block.words)
    × (take (l.start + l.at) l.block.words ≡ take l.start l.initial.block.words ++ take l.at (values_of l.pairs))
