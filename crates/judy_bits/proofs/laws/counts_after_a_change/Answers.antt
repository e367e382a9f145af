use Rattle.judy_bits.proofs.SetLemmas.{length-with_byte, length-without_byte}
use Rattle.judy_bits.proofs.laws.counts_after_a_change.Goals as goal

pub returns : goal.returns
returns c = record { added = λ members byte is. length-with_byte members byte is.ascending; taken = λ members byte is. length-without_byte members byte is.ascending }
