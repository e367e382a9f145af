use Rattle.judy_model.proofs.lemmas.commands.SizeLemmas.{Step-no_memory_adds}
use Rattle.judy_model.proofs.laws.growth.want_of_memory_comes_where_one_is_added.Goals as goal

pub returns : goal.returns
returns c = Step-no_memory_adds
