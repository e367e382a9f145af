use Rattle.judy_model.proofs.lemmas.forms.FormLemmas.{loose_in-form_of}
use Rattle.judy_model.proofs.laws.shapes.the_rule_leaves_nothing_loose.Goals as goal

pub returns : goal.returns
returns c = loose_in-form_of
