use Rattle.judy_model.proofs.lemmas.commands.KeyTokenLemmas.{tokens_of-printed_key, key_of-printed_key, bytes_key_of-printed_key, string_key_of-printed_key}
use Rattle.judy_model.proofs.laws.keys.a_printed_key_is_read_back.Goals as goal

pub returns : goal.returns
returns c = record { token = tokens_of-printed_key; string = key_of-printed_key; bytes_key = bytes_key_of-printed_key; string_key = string_key_of-printed_key }
