use Rattle.judy_word.proofs.Sets.{IsSet-held}
use Rattle.judy_word.proofs.word_array.judy1.Judy1.array_law.Goals as goal

pub returns : goal.returns
returns c = rw (← c.self.view_is) (c.array_law.ensures, IsSet-held c.self.inside.tree c.law.ensures)
