use Rattle.judy_model.proofs.lemmas.commands.ValueCommands.{of_bytes, of_strings, of_words}
use Rattle.judy_model.proofs.laws.commands.values.del_takes_out_a_present_key.Goals as goal

pub returns : goal.returns
returns c = record { words = of_words.del_present; strings = of_strings.del_present; bytes = of_bytes.del_present }
