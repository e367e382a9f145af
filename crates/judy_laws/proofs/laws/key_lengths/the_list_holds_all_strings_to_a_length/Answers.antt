use Rattle.judy_model.specs.Tables.{string_keys_to}
use Rattle.judy_model.proofs.lemmas.maps.Ascending.{among_from_Contains, Contains-from_among}
use Rattle.judy_model.proofs.lemmas.maps.TableLemmas.{string_keys_to-all}
use Rattle.judy_laws.proofs.laws.key_lengths.the_list_holds_all_strings_to_a_length.Goals as goal

pub returns : goal.returns
returns c = λ longest key. (
  λ here. (string_keys_to-all longest).only key (among_from_Contains (string_keys_to longest) key here),
  λ is. Contains-from_among (string_keys_to longest) key ((string_keys_to-all longest).there key is),
)
