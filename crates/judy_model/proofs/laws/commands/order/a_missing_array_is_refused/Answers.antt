use Rattle.judy_model.proofs.lemmas.commands.OrderedRefusals.{drop-of, free-of, key-of, pair-of, missing}
use Rattle.judy_model.proofs.laws.commands.order.a_missing_array_is_refused.Goals as goal

pub returns : goal.returns
returns c = record {
  drop = missing drop-of;
  free = missing free-of;
  one = λ which word token named. missing (key-of which word token named);
  two = λ which word first second named. missing (pair-of which word first second named);
}
