use Rattle.judy_model.proofs.lemmas.commands.WholeCommands.{freed_array}
use Rattle.judy_model.proofs.laws.commands.whole.free_answers_how_many_keys_there_were.Goals as goal

pub returns : goal.returns
returns c = freed_array
