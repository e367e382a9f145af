use Rattle.judy_model.proofs.lemmas.runs.KeptLemmas.{regular_limit}
use Rattle.judy_model.proofs.laws.kept.a_regular_limit_is_one_that_a_script_gives.Goals as goal

pub returns : goal.returns
returns c = regular_limit
