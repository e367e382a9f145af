use Rattle.judy_model.proofs.lemmas.queries.CountsLemmas.{keys_between_ascending}
use Rattle.judy_model.proofs.laws.counts.keys_between_ascend.Goals as goal

pub returns : goal.returns
returns c = record { words = keys_between_ascending; byte_strings = keys_between_ascending }
