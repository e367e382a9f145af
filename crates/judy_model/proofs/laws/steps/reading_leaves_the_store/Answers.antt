use Rattle.judy_model.proofs.lemmas.commands.ReadingLemmas.{reading_leaves}
use Rattle.judy_model.proofs.laws.steps.reading_leaves_the_store.Goals as goal

pub returns : goal.returns
returns c = λ store command arguments outcome only is. reading_leaves store command arguments outcome is only
