use Rattle.judy_sl.proofs.lemmas.seats.Words.{seats-words}
use Rattle.judy_sl.proofs.arena.Arena.words_law.Goals as goal

pub returns : goal.returns
returns c = seats-words c.args.self.now c.array_law.ensures c.law-2.ensures c.law.ensures
