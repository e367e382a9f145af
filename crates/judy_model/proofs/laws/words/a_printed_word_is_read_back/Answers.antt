use Rattle.judy_model.proofs.lemmas.commands.WordLemmas.{word_of-IsWord, word_of-decimal}
use Rattle.judy_model.proofs.laws.words.a_printed_word_is_read_back.Goals as goal

pub returns : goal.returns
returns c = record { words = word_of-IsWord; printed = word_of-decimal }
