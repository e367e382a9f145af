use Rattle.judy_bits.proofs.SetLemmas.{empty-IsByteSet, with_byte-IsByteSet, without_byte-IsByteSet}
use Rattle.judy_bits.proofs.laws.a_changed_set_is_a_set.Goals as goal

pub returns : goal.returns
returns c = record { empty = empty-IsByteSet; added = with_byte-IsByteSet; taken = without_byte-IsByteSet }
