use Rattle.judy_model.proofs.lemmas.runs.KeptLemmas.{store_named, store_once}
use Rattle.judy_model.proofs.laws.kept.a_store_has_an_array_a_name.Goals as goal

pub returns : goal.returns
returns c = record { few = λ store is. is.within_limit; named = store_named; once = store_once }
