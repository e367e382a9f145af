use Rattle.judy_bits.proofs.SetLaws.{has-with_byte, has-without_byte}
use Rattle.judy_bits.proofs.laws.members_after_a_change.Goals as goal

pub returns : goal.returns
returns c = record { added = has-with_byte; taken = has-without_byte }
