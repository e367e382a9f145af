use Rattle.std.proofs.Common.{◌≡◌, count_by, nat_lt, take}
use Rattle.judy_bits.proofs.few_bytes.FewBytes.rank.Given as goal

abbrev pub invariant-loop-member : goal.invariant-loop-member
invariant-loop-member l = l.below ≡ count_by (λ member. nat_lt member l.byte) (take l.member-index l.member-items)
