use Rattle.judy_model.proofs.lemmas.forms.FormLemmas.{keys_in-form_of}
use Rattle.judy_model.proofs.laws.shapes.a_form_has_its_keys.Goals as goal

pub returns : goal.returns
returns c = keys_in-form_of
