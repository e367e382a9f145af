use Rattle.judy_model.proofs.lemmas.queries.CountsLemmas.{count-keys_between}
use Rattle.judy_model.proofs.laws.counts.count_is_how_many.Goals as goal

pub returns : goal.returns
returns c = record { words = count-keys_between; byte_strings = count-keys_between }
