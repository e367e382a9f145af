use Rattle.judy_model.proofs.lemmas.commands.SearchCommands.{set_present, set_absent, set_at_limit}
use Rattle.judy_model.proofs.laws.commands.sets.set_puts_in_an_absent_key.Goals as goal

pub returns : goal.returns
returns c = record { present = λ set token key value is. set_present set token key is value; absent = set_absent; at_limit = set_at_limit }
