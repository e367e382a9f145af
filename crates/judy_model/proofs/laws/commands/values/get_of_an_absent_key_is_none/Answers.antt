use Rattle.judy_model.proofs.lemmas.commands.ValueCommands.{of_bytes, of_strings, of_words}
use Rattle.judy_model.proofs.laws.commands.values.get_of_an_absent_key_is_none.Goals as goal

pub returns : goal.returns
returns c = record { words = of_words.get_absent; strings = of_strings.get_absent; bytes = of_bytes.get_absent }
