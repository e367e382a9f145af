use Rattle.std.proofs.Common.{◌≡◌, take}
use Rattle.judy_bits.proofs.byte_set.few_of.Given as goal

abbrev pub invariant-loop-at : goal.invariant-loop-at
invariant-loop-at l = l.few ≡ take l.at l.bits
