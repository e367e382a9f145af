use Rattle.judy_model.proofs.lemmas.commands.RefusedCommands.{by_count_in_set_bad, by_count_in_words_bad, by_count_in_strings_bad}
use Rattle.judy_model.proofs.laws.commands.refusals.a_bad_word_counts_no_key.Goals as goal

pub returns : goal.returns
returns c = record { set = by_count_in_set_bad; words = by_count_in_words_bad; strings = by_count_in_strings_bad }
