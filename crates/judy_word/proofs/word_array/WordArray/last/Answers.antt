use Rattle.judy_word.proofs.EntryFacts.{key_alone, key_none}
use Rattle.judy_word.proofs.word_array.WordArray.last.Goals as goal

pub returns-in_err-key : goal.returns-in_err-key
returns-in_err-key g c = rw (← c.self.view_is) (key_none c.in_err-key.was c.last_entry.ensures.key c.from_residual.ensures)

pub returns : goal.returns
returns g c = rw (← c.self.view_is) (key_alone c.in_ok-key.was c.last_entry.ensures.key)
