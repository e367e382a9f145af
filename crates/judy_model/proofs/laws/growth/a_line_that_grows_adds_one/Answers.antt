use Rattle.judy_model.specs.Steps.{grows}
use Rattle.judy_model.proofs.lemmas.commands.SizeLemmas.{step-Adds, Adds-more, Adds-one}
use Rattle.judy_model.proofs.laws.growth.a_line_that_grows_adds_one.Goals as goal

pub returns : goal.returns
returns c = record { more = λ store line. Adds-more (grows store line) _ _ (step-Adds store line); one_more = λ store line. Adds-one (grows store line) _ _ (step-Adds store line) }
