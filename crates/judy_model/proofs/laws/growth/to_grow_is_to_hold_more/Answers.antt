use Rattle.judy_model.proofs.lemmas.commands.SizeLemmas.{outcome-Adds, Adds-more, Adds-one}
use Rattle.judy_model.proofs.laws.growth.to_grow_is_to_hold_more.Goals as goal

pub returns : goal.returns
returns c = record {
  more = λ store command arguments outcome is. Adds-more outcome.grows _ _ (outcome-Adds store command arguments outcome is);
  one_more = λ store command arguments outcome is. Adds-one outcome.grows _ _ (outcome-Adds store command arguments outcome is);
}
