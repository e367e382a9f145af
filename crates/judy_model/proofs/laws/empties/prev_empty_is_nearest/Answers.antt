use Rattle.judy_model.proofs.lemmas.queries.EmptiesLemmas.{prev_empty-IsPrev}
use Rattle.judy_model.proofs.laws.empties.prev_empty_is_nearest.Goals as goal

pub returns : goal.returns
returns c = prev_empty-IsPrev
