use Rattle.judy_model.proofs.lemmas.orders.KeyLengthLemmas.{is_judyhs}
use Rattle.judy_shelf.proofs.array.Array.array_law.Goals as goal

pub returns-in-JudyHs : goal.returns-in-JudyHs
returns-in-JudyHs c = rw c.in-JudyHs.is (is_judyhs _ c.array_law-in-JudyHs.ensures)
