use Rattle.judy_bits.proofs.SetLaws.{next-IsFirst, prev-IsLast}
use Rattle.judy_bits.proofs.laws.nearest_members.Goals as goal

pub returns : goal.returns
returns c = record { next = next-IsFirst; previous = prev-IsLast }
