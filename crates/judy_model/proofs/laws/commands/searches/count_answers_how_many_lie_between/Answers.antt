use Rattle.judy_model.proofs.lemmas.commands.SearchCommands.{count_of_set, count_of_words, count_of_strings}
use Rattle.judy_model.proofs.laws.commands.searches.count_answers_how_many_lie_between.Goals as goal

pub returns : goal.returns
returns c = record { set = count_of_set; words = count_of_words; strings = count_of_strings }
