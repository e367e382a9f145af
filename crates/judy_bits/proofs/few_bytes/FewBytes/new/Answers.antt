use Rattle.std.proofs.Common.{refl, arith}
use Rattle.judy_bits.proofs.SetLemmas.{empty-IsByteSet}
use Rattle.judy_bits.proofs.few_bytes.FewBytes.new.Goals as goal

pub invariant_of-result : goal.invariant_of-result
invariant_of-result c = (record { seven = refl; within = omega arith; filled = refl }, empty-IsByteSet)
