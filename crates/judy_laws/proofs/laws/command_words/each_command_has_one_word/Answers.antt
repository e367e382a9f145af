use Rattle.judy_laws.proofs.lemmas.CommandNameLemmas.{names_a_command}
use Rattle.judy_laws.proofs.laws.command_words.each_command_has_one_word.Goals as goal

pub returns : goal.returns
returns c = names_a_command
