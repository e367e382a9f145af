use Rattle.judy_bits.proofs.SetLaws.{same_set}
use Rattle.judy_bits.proofs.laws.a_set_is_its_members.Goals as goal

pub returns : goal.returns
returns c = λ one other is also same. same_set one other is.ascending also.ascending same
