use Rattle.judy_model.proofs.lemmas.runs.KeptLemmas.{limits, set_holds, words_hold, strings_hold, bytes_hold}
use Rattle.judy_model.proofs.laws.kept.an_array_holds_keys_of_its_kind.Goals as goal

pub returns : goal.returns
returns c = record { limit = limits; set = set_holds; words = words_hold; strings = strings_hold; bytes = bytes_hold }
