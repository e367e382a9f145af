use Rattle.judy_model.proofs.lemmas.forms.WayLemmas.{way_of_33}
use Rattle.judy_model.proofs.laws.ways.a_node_of_33_keys_is_33_keys_alike.Goals as goal

pub returns : goal.returns
returns c = way_of_33
