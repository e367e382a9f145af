use Rattle.std.proofs.Common.{ap, ◌∙◌}
use Rattle.judy_model.specs.Forms.{loose_in}
use Rattle.judy_model.proofs.lemmas.forms.FormLemmas.{loose_in-form_of}
use Rattle.judy_leaf.specs.KeyLists.{keys_of}
use Rattle.judy_node.proofs.laws.tight_is_the_rule.Goals as goal

pub returns-clause-tight : goal.returns-clause-tight
returns-clause-tight g c = λ same. ap loose_in same ∙ loose_in-form_of g.V.Words.WORDS 8 (keys_of c.args.tree.now.pairs)
