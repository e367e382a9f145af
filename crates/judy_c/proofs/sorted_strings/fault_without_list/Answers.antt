-- `fault_without_list`: where none goes beyond the bytes, what is wrong is told of the first string that doesn't fit.
use Rattle.std.proofs.Common.{inr, arith}
use Rattle.judy_c.proofs.PageFaults.{whole_on-le}
use Rattle.judy_c.proofs.sorted_strings.fault_without_list.Goals as goal

pub first_fault-requires : goal.first_fault-requires
first_fault-requires c = let all = c.if-whole-entries.false in let counted = c.count_whole-whole.ensures in omega (arith, all, counted, whole_on-le c.args.bytes.now c.args.entries.now)

pub returns : goal.returns
returns c = let all = c.if-whole-entries.false in let counted = c.count_whole-whole.ensures in inr (omega (arith, all, counted, whole_on-le c.args.bytes.now c.args.entries.now), c.first_fault.ensures)
