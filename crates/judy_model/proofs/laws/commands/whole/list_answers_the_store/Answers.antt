use Rattle.judy_model.proofs.lemmas.commands.WholeCommands.{listed_store}
use Rattle.judy_model.proofs.laws.commands.whole.list_answers_the_store.Goals as goal

pub returns : goal.returns
returns c = listed_store
