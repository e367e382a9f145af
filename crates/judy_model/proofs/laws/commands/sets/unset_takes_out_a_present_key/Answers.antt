use Rattle.judy_model.proofs.lemmas.commands.SearchCommands.{unset_present, unset_absent}
use Rattle.judy_model.proofs.laws.commands.sets.unset_takes_out_a_present_key.Goals as goal

pub returns : goal.returns
returns c = record { present = λ set token key value is. unset_present set token key is value; absent = unset_absent }
