use Rattle.judy_model.proofs.lemmas.commands.RefusedCommands.{set_bad, unset_bad, test_bad}
use Rattle.judy_model.proofs.laws.commands.refusals.a_bad_word_is_refused_by_a_set.Goals as goal

pub returns : goal.returns
returns c = record { set = set_bad; unset = unset_bad; test = test_bad }
