use Rattle.judy_model.proofs.lemmas.commands.SearchCommands.{by_count_of_set, by_count_of_words, by_count_of_strings}
use Rattle.judy_model.proofs.laws.commands.searches.bycount_answers_the_nth_key.Goals as goal

pub returns : goal.returns
returns c = record { set = by_count_of_set; words = by_count_of_words; strings = by_count_of_strings }
