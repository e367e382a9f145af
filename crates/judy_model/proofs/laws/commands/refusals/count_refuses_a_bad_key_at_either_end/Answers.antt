use Rattle.judy_model.proofs.lemmas.commands.RefusedCommands.{count_in_strings_bad_first, count_in_strings_bad_second}
use Rattle.judy_model.proofs.laws.commands.refusals.count_refuses_a_bad_key_at_either_end.Goals as goal

pub returns : goal.returns
returns c = record { first = count_in_strings_bad_first; second = count_in_strings_bad_second }
