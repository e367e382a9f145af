use Rattle.judy_model.proofs.lemmas.commands.ValueCommands.{of_bytes, of_strings, of_words}
use Rattle.judy_model.proofs.laws.commands.values.put_writes_a_present_key.Goals as goal

pub returns : goal.returns
returns c = record { words = of_words.put_present; strings = of_strings.put_present; bytes = of_bytes.put_present }
