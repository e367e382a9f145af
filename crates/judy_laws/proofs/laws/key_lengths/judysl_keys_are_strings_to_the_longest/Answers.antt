use Rattle.judy_model.proofs.lemmas.maps.TableLemmas.{string_key_to, string_key_of}
use Rattle.judy_laws.proofs.laws.key_lengths.judysl_keys_are_strings_to_the_longest.Goals as goal

pub returns : goal.returns
returns c = λ key. (string_key_to key, string_key_of key)
