use Rattle.judy_model.proofs.lemmas.commands.KeyTokenLemmas.{key_of-IsByteString, bytes_key_of-IsBytesKey, string_key_of-IsStringKey}
use Rattle.judy_model.proofs.laws.keys.a_key_token_says_a_key.Goals as goal

pub returns : goal.returns
returns c = record { string = key_of-IsByteString; bytes_key = bytes_key_of-IsBytesKey; string_key = string_key_of-IsStringKey }
