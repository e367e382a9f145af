use Rattle.judy_records.proofs.BackLemmas.{bytes-back}
use Rattle.judy_records.proofs.laws.byte_strings_are_what_their_words_spell.Goals as goal

pub returns : goal.returns
returns c = bytes-back
