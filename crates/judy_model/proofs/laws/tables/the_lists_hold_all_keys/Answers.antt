use Rattle.judy_model.specs.Tables.{bytes_keys, string_keys}
use Rattle.judy_model.proofs.lemmas.maps.Ascending.{among_from_Contains, Contains-from_among}
use Rattle.judy_model.proofs.lemmas.maps.TableLemmas.{bytes_keys-all, string_keys-all}
use Rattle.judy_model.proofs.laws.tables.the_lists_hold_all_keys.Goals as goal

pub returns : goal.returns
returns c = record {
  bytes =
      λ longest key. (
        λ here. (bytes_keys-all longest).only key (among_from_Contains (bytes_keys longest) key here),
        λ is. Contains-from_among (bytes_keys longest) key ((bytes_keys-all longest).there key is),
      );
  strings = λ key. (λ here. string_keys-all.only key (among_from_Contains string_keys key here), λ is. Contains-from_among string_keys key (string_keys-all.there key is));
}
