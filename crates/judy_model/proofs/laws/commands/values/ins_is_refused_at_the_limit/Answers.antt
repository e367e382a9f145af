use Rattle.judy_model.proofs.lemmas.commands.ValueCommands.{of_bytes, of_strings, of_words}
use Rattle.judy_model.proofs.laws.commands.values.ins_is_refused_at_the_limit.Goals as goal

pub returns : goal.returns
returns c = record { words = of_words.ins_at_limit; strings = of_strings.ins_at_limit; bytes = of_bytes.ins_at_limit }
