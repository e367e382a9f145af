use Rattle.judy_model.proofs.lemmas.commands.OrderedRefusals.{list-arguments, make-arguments, drop-arguments, free-arguments, key-arguments, pair-arguments}
use Rattle.judy_model.proofs.laws.commands.order.a_wrong_number_of_arguments_is_refused.Goals as goal

pub returns : goal.returns
returns c = record { list = list-arguments; make = make-arguments; drop = drop-arguments; free = free-arguments; one = key-arguments; two = pair-arguments }
