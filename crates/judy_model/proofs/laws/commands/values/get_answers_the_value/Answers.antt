use Rattle.judy_model.proofs.lemmas.commands.ValueCommands.{of_bytes, of_strings, of_words}
use Rattle.judy_model.proofs.laws.commands.values.get_answers_the_value.Goals as goal

pub returns : goal.returns
returns c = record { words = of_words.get_present; strings = of_strings.get_present; bytes = of_bytes.get_present }
