use Rattle.judy_model.proofs.lemmas.commands.ReadingLemmas.{grows-Adds}
use Rattle.judy_model.proofs.laws.steps.only_adding_grows.Goals as goal

pub returns : goal.returns
returns c = grows-Adds
