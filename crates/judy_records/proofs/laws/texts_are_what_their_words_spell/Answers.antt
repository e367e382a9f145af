use Rattle.judy_records.proofs.PadLemmas.{text-back}
use Rattle.judy_records.proofs.laws.texts_are_what_their_words_spell.Goals as goal

pub returns : goal.returns
returns c = text-back
