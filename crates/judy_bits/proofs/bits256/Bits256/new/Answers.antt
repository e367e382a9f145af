use Rattle.judy_bits.proofs.MemberLemmas.{members_of-new}
use Rattle.judy_bits.proofs.bits256.Bits256.new.Goals as goal

pub returns : goal.returns
returns c = members_of-new
