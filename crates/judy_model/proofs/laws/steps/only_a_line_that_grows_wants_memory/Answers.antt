use Rattle.judy_model.proofs.lemmas.commands.StepLemmas.{outcome_of-never_no_memory, Step-not_growing, Step-no_memory}
use Rattle.judy_model.proofs.laws.steps.only_a_line_that_grows_wants_memory.Goals as goal

pub returns : goal.returns
returns c = record { defined = outcome_of-never_no_memory; others = Step-not_growing; unchanged = Step-no_memory }
