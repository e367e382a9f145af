use Rattle.judy_model.proofs.lemmas.commands.WholeCommands.{dropped_array}
use Rattle.judy_model.proofs.laws.commands.whole.drop_answers_how_many_keys_there_were.Goals as goal

pub returns : goal.returns
returns c = dropped_array
