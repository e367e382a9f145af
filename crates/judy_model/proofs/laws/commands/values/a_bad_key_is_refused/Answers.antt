use Rattle.judy_model.proofs.lemmas.commands.ValueCommands.{of_bytes, of_strings, of_words}
use Rattle.judy_model.proofs.laws.commands.values.a_bad_key_is_refused.Goals as goal

pub returns : goal.returns
returns c = record {
  get_words = of_words.get_bad_key;
  get_strings = of_strings.get_bad_key;
  get_bytes = of_bytes.get_bad_key;
  del_words = of_words.del_bad_key;
  del_strings = of_strings.del_bad_key;
  del_bytes = of_bytes.del_bad_key;
}
