use Rattle.judy_bits.proofs.AbsentLemmas.{has-absent}
use Rattle.judy_bits.proofs.laws.absent_bytes_are_no_members.Goals as goal

pub returns : goal.returns
returns c = has-absent
