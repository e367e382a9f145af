use Rattle.judy_model.proofs.lemmas.commands.SearchCommands.{test_present, test_absent}
use Rattle.judy_model.proofs.laws.commands.sets.test_answers_whether_a_key_is_there.Goals as goal

pub returns : goal.returns
returns c = record { present = λ set token key value is. test_present set token key is value; absent = test_absent }
