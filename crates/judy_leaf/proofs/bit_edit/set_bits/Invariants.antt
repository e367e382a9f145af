use Rattle.std.proofs.Common.{take}
use Rattle.judy_leaf.specs.KeyLists.{keys_of, low_pairs}
use Rattle.judy_leaf.specs.BitChanges.{IsBitChange}
use Rattle.judy_leaf.proofs.bit_edit.set_bits.Given as goal

abbrev pub invariant-loop-at : goal.invariant-loop-at
invariant-loop-at l = IsBitChange (λ _. take l.at (keys_of (low_pairs 256 l.pairs))) l.initial.block l.block
