use Rattle.judy_records.proofs.PadLemmas.{same-ends}
use Rattle.judy_records.proofs.laws.byte_strings_that_end_well_differ_in_their_words.Goals as goal

pub returns : goal.returns
returns c = same-ends
