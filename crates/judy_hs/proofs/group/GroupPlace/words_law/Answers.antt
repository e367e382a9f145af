use Rattle.judy_hs.proofs.ValueLemmas.{short_words}
use Rattle.judy_hs.proofs.group.GroupPlace.words_law.Goals as goal

pub returns-in-Short : goal.returns-in-Short
returns-in-Short c = rw c.in-Short.is (short_words c.in-Short.words c.array_law.ensures)
