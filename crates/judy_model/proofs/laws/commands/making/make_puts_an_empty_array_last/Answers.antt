use Rattle.judy_model.proofs.lemmas.commands.MakeCommands.{made_with_limit, made_without_limit}
use Rattle.judy_model.proofs.laws.commands.making.make_puts_an_empty_array_last.Goals as goal

pub returns : goal.returns
returns c = record { limit = made_with_limit; no_limit = made_without_limit }
