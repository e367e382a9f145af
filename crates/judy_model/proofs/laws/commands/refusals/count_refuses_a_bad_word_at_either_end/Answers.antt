use Rattle.judy_model.proofs.lemmas.commands.RefusedCommands.{count_in_set_bad_first, count_in_set_bad_second, count_in_words_bad_first, count_in_words_bad_second}
use Rattle.judy_model.proofs.laws.commands.refusals.count_refuses_a_bad_word_at_either_end.Goals as goal

pub returns : goal.returns
returns c = record { set_first = count_in_set_bad_first; set_second = count_in_set_bad_second; words_first = count_in_words_bad_first; words_second = count_in_words_bad_second }
