use Rattle.judy_model.proofs.lemmas.queries.EmptiesLemmas.{first_empty-IsFirst}
use Rattle.judy_model.proofs.laws.empties.first_empty_is_nearest.Goals as goal

pub returns : goal.returns
returns c = first_empty-IsFirst
