use Rattle.std.proofs.Common.{◌≡◌, false, take}
use Rattle.judy_bits.specs.ByteSets.{has}
use Rattle.judy_leaf.specs.KeyLists.{keys_of}
use Rattle.judy_word.proofs.filling.is_among.Given as goal

-- none so far has it
abbrev pub invariant-pairs : goal.invariant-pairs
invariant-pairs l = has (keys_of (take l.pair-index l.pairs)) l.key ≡ false
