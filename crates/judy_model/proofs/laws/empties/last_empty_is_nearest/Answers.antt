use Rattle.judy_model.proofs.lemmas.queries.EmptiesLemmas.{last_empty-IsLast}
use Rattle.judy_model.proofs.laws.empties.last_empty_is_nearest.Goals as goal

pub returns : goal.returns
returns c = last_empty-IsLast
