use Rattle.judy_model.proofs.lemmas.commands.OrderedRefusals.{unknown}
use Rattle.judy_model.proofs.laws.commands.order.an_unknown_word_is_refused.Goals as goal

pub returns : goal.returns
returns c = unknown
