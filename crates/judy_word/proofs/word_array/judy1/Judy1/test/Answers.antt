use Rattle.judy_word.proofs.Sets.{IsSet-held}
use Rattle.judy_word.proofs.word_array.judy1.Judy1.test.Goals as goal

pub returns-clause-zeros : goal.returns-clause-zeros
returns-clause-zeros c = rw (← c.self.view_is) (IsSet-held c.self.inside.tree c.law.ensures)
