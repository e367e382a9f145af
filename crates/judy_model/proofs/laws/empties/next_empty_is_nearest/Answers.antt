use Rattle.judy_model.proofs.lemmas.queries.EmptiesLemmas.{next_empty-IsNext}
use Rattle.judy_model.proofs.laws.empties.next_empty_is_nearest.Goals as goal

pub returns : goal.returns
returns c = next_empty-IsNext
