use Rattle.judy_model.proofs.lemmas.commands.StepLemmas.{step-refused, Step-refused}
use Rattle.judy_model.proofs.laws.steps.a_refused_line_leaves_the_store.Goals as goal

pub returns : goal.returns
returns c = record { step = step-refused; memory = Step-refused }
