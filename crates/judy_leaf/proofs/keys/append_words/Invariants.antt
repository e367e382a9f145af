use Rattle.std.proofs.Common.{◌≡◌, ◌+◌, ◌^◌, ◌++◌, length, take}
use Rattle.judy_leaf.specs.KeyLists.{keys_of, low_pairs}
use Rattle.judy_leaf.proofs.keys.append_words.Given as goal

abbrev pub invariant-loop-at : goal.invariant-loop-at
invariant-loop-at g l =
    (l.block.capacity ≡ l.initial.block.capacity) × (l.block.tag ≡ l.initial.block.tag) × (length l.block.words ≡ length l.initial.block.words)
    × (take (l.start + l.at) l.block.words ≡ take l.start l.initial.block.words ++ take l.at (keys_of (low_pairs (256 ^ g.row.W) l.pairs)))
