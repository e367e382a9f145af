use Rattle.judy_model.proofs.lemmas.commands.ValueCommands.{of_bytes, of_strings, of_words}
use Rattle.judy_model.proofs.laws.commands.values.a_bad_key_is_refused_before_a_value.Goals as goal

pub returns : goal.returns
returns c = record {
  put_words = of_words.put_bad_key;
  put_strings = of_strings.put_bad_key;
  put_bytes = of_bytes.put_bad_key;
  ins_words = of_words.ins_bad_key;
  ins_strings = of_strings.ins_bad_key;
  ins_bytes = of_bytes.ins_bad_key;
}
