use Rattle.judy_model.proofs.lemmas.commands.ValueCommands.{of_bytes, of_strings, of_words}
use Rattle.judy_model.proofs.laws.commands.values.a_bad_value_is_refused_behind_a_key.Goals as goal

pub returns : goal.returns
returns c = record {
  put_words = of_words.put_bad_value;
  put_strings = of_strings.put_bad_value;
  put_bytes = of_bytes.put_bad_value;
  ins_words = of_words.ins_bad_value;
  ins_strings = of_strings.ins_bad_value;
  ins_bytes = of_bytes.ins_bad_value;
}
