use Rattle.judy_model.proofs.lemmas.commands.ValueCommands.{of_bytes, of_strings, of_words}
use Rattle.judy_model.proofs.laws.commands.values.ins_adds_an_absent_key.Goals as goal

pub returns : goal.returns
returns c = record { words = of_words.ins_absent; strings = of_strings.ins_absent; bytes = of_bytes.ins_absent }
