use Rattle.std.proofs.Common.{◌≡◌, take}
use Rattle.judy_bits.proofs.few_bytes.FewBytes.to_bits.Given as goal

abbrev pub invariant-loop-byte : goal.invariant-loop-byte
invariant-loop-byte l = l.bits ≡ take l.byte-index l.byte-items
